-- What travels between nodes, clients and the membership service, each with the clock of the event that sent it.
use Rattle.std.specs.Prelude.{ℕ, ◌^◌, Bool, nat_lt, List, Option}
use Rattle.zeus_packet.specs.declared.letter.Letter.{Letter}
use Rattle.zeus_txn.specs.declared.reply.Reply.{Reply}

-- a packet on a link; its number is its place among all packets that its sender ever sent there
pub record Stamped : Type 0 where
  pub clock : ℕ
  pub number : ℕ
  pub letter : Letter

-- a transaction that a client hands to its slot, with the greatest clock that the client had seen
pub record Job : Type 0 where
  pub tx : ℕ
  pub seen : ℕ

-- the answer that a client gets for a transaction: its reply, or none where it was refused
pub record Answered : Type 0 where
  pub tx : ℕ
  pub reply : Option Reply
  pub clock : ℕ

-- how a transaction ends for those who wait for it
pub data End : Type 0 where
  Acked : End
  Refused : End
  Stopped : End

-- the word that a transaction has ended
pub record Note : Type 0 where
  pub tx : ℕ
  pub clock : ℕ
  pub end : End

-- a view on its way to a member
pub record Sight : Type 0 where
  pub clock : ℕ
  pub epoch : ℕ
  pub members : List ℕ

-- whether what an event of this clock sends is sent at all
unfoldable pub travels : ℕ → Bool
travels clock = nat_lt clock (2 ^ 62)
