-- The links between nodes as letters and the room that they have, and a link as one run of bytes with the place where each packet begins.
use Rattle.std.specs.Prelude.{ℕ, true, ◌≡◌, ◌-◌, ◌/◌, ◌<◌, ◌≤◌, min, suc, List, [], ◌∷◌, ◌++◌, length, map, drop, Option, Some, None, Result, Ok, Err, vec_capacity, vec_len}
use Rattle.std.specs.Global.{Vec}
use Rattle.zeus_packet.specs.Fits.{fits}
use Rattle.zeus_packet.specs.declared.letter.Body.TheVariants.{Recovered}
use Rattle.zeus_packet.specs.declared.letter.Letter.{Letter}
use Rattle.zeus_packet.specs.declared.letter.Packet.{Packet}
use Rattle.zeus_model.specs.Tables.{nth}
use Rattle.zeus_wire.specs.declared.fault.WireFault.{WireFault}
use Rattle.zeus_wire.specs.Ranges.{IsPacket, largest}
use Rattle.zeus_wire.specs.Reading.{decoded_front}
use Rattle.zeus_model.specs.PacketSpelling.{packet_bytes}

-- the letters that were ever sent on a link, and how many more it has room for
pub record LinkState : Type 0 where
  pub letters : List Letter
  pub room : ℕ

-- a link without a letter and without room
abbrev pub no_link : LinkState
no_link = record { letters = []; room = 0 }

-- the letters of a link
unfoldable pub letters_of : LinkState → List Letter
letters_of l = l.letters

-- the letters of the links of one sender, by receiver
unfoldable pub row_letters : List LinkState → List (List Letter)
row_letters ls = map letters_of ls

-- the letters of all links, by sender and receiver
unfoldable pub letters : List (List LinkState) → List (List (List Letter))
letters rows = map row_letters rows

-- how many more letters the link of a sender and a receiver has room for
abbrev pub room : List (List LinkState) → ℕ → ℕ → ℕ
room rows from to = (nth no_link (nth [] rows from) to).room

-- each of the links has room for so many letters
unfoldable pub HasRoom : ℕ → List LinkState → Type 0
HasRoom count row = (to : ℕ) → to < length row → count ≤ (nth no_link row to).room

-- there is such a link
pub record IsLink (rows : List (List LinkState)) (sender receiver : ℕ) : Type 0 where
  pub from : sender < length rows
  pub to : receiver < length (nth [] rows sender)

-- the packet of a letter and its number
abbrev pub numbered : ℕ → Letter → Packet
numbered number l = record { number = number; letter = l }

-- ---- a link as bytes

-- the letter of a packet that was read; bytes that are no packet have none, and any stands for it
unfoldable pub letter_read : Result (Packet × ℕ) WireFault → Letter
letter_read (Ok x) = x.0.letter
letter_read (Err fault) = record { from = 0; to = 0; epoch = 0; body = Recovered }

-- the packet that was read, if one was
unfoldable pub packet_read : Result (Packet × ℕ) WireFault → Option Packet
packet_read (Ok x) = Some x.0
packet_read (Err fault) = None

-- the letter of the packet that begins at this place
unfoldable pub letter_at : List ℕ → ℕ → Letter
letter_at bytes start = letter_read (decoded_front (largest 2) (drop start bytes))

-- the letters of the packets that begin at these places
unfoldable pub letters_at : List ℕ → List ℕ → List Letter
letters_at bytes [] = []
letters_at bytes (start ∷ starts) = letter_at bytes start ∷ letters_at bytes starts

-- at this place begins the spelling of the packet, which fits
pub record BeginsAt (bytes : List ℕ) (start : ℕ) (p : Packet) : Type 0 where
  pub behind : List ℕ
  pub within : start ≤ length bytes
  pub text : drop start bytes ≡ packet_bytes 2 p ++ behind
  pub is : IsPacket p
  pub fit : fits p.letter (largest 2) ≡ true

-- at each of these places begins a packet, numbered one after the other
unfoldable pub AreAt : List ℕ → ℕ → List ℕ → Type 0
AreAt bytes number [] = Unit {0}
AreAt bytes number (start ∷ starts) = ((l : Letter) × BeginsAt bytes start (numbered number l)) × AreAt bytes (suc number) starts

-- how many letters more a link takes before it wants memory, or has no number of 32 bits left
unfoldable pub link_room : Vec ℕ → Vec ℕ → ℕ
link_room bytes starts = min (min 4294967295 (vec_capacity starts) - vec_len starts) ((vec_capacity bytes - vec_len bytes) / 368)
