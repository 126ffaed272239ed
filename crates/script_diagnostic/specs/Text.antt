-- The line that explains a fault.
use Rattle.std.specs.Prelude.{ℕ, ◌+◌, ◌-◌, ◌/◌, ◌%◌, Bool, ◌&&◌, ◌==◌, nat_lt, nat_le, List, [], ◌∷◌, ◌++◌, length, take, drop, Option, Some, None, Result, Ok, Err, codes, decimal, if◌then◌else◌}
use Rattle.std.specs.Str.{bytes_eq}
use Rattle.script_diagnostic.specs.Fitting.{line_at, words_at, is_word, fitting}
use Rattle.zeus_model.specs.Faults.{word_of}
use Rattle.zeus_model.specs.Places.{first_word}
use Rattle.zeus_model.specs.ReportText.{line_end}
use Rattle.zeus_model.specs.Words.{cut, is_among}
use Rattle.zeus_model.specs.declared.fault.Kind.{Kind}
use Rattle.zeus_model.specs.declared.fault.Kind.TheVariants as kinds
use Rattle.zeus_model.specs.declared.fault.ScriptFault.{ScriptFault}
use Rattle.zeus_model.specs.declared.script.Script.{Script}

-- ---- bytes

-- 0 to 9, and then A to F
unfoldable pub hex_digit : ℕ → ℕ
hex_digit n = if nat_lt n 10 then 48 + n else 65 + (n - 10)

-- a byte from the space to ~ is shown as it is, another one as \x and two hexadecimal digits
unfoldable pub shown_byte : ℕ → List ℕ
shown_byte b = if nat_le 32 b && nat_le b 126 then b ∷ [] else codes "\\x" ++ hex_digit (b / 16) ∷ hex_digit (b % 16) ∷ []

unfoldable pub shown : List ℕ → List ℕ
shown [] = []
shown (b ∷ bs) = shown_byte b ++ shown bs

-- the first 60 bytes between quotes, and two dots behind if there are more
unfoldable pub quoted : List ℕ → List ℕ
quoted bytes = codes "\"" ++ shown (take 60 bytes) ++ (if nat_lt 60 (length bytes) then codes "\" .." else codes "\"")

-- ---- what may stand in a line

-- the words that may begin a line, with a space between each two, by the first word of the line before
unfoldable pub next_text : List ℕ → List ℕ
next_text w =
    if length w == 0 then codes "zeus" else
    (if bytes_eq w (codes "zeus") then codes "nodes" else
    (if bytes_eq w (codes "nodes") then codes "slots" else
    (if bytes_eq w (codes "slots") then codes "directory" else
    (if bytes_eq w (codes "directory") then codes "degree object" else
    (if bytes_eq w (codes "degree") then codes "object" else
    (if bytes_eq w (codes "object") then codes "object tx run" else
    (if bytes_eq w (codes "tx") then codes "tx run" else codes "end begin try deliver tick stop view install")))))))

-- a line with this first word
unfoldable pub form_text : List ℕ → List ℕ
form_text w =
    if bytes_eq w (codes "zeus") then codes "zeus 1 or zeus 2" else
    (if bytes_eq w (codes "nodes") then codes "nodes and a number from 1 to 8" else
    (if bytes_eq w (codes "slots") then codes "slots and a number from 1 to 8" else
    (if bytes_eq w (codes "directory") then codes "directory and rising nodes, one at least" else
    (if bytes_eq w (codes "degree") then codes "degree and a number from 1 to 8" else
    (if bytes_eq w (codes "object") then codes "object NAME VALUE OWNER, and rising nodes without the owner" else
    (if bytes_eq w (codes "tx") then codes "tx NODE SLOT, or tx NODE SLOT after TX, and operations with ; between each two: get NAME, put NAME VALUE, add NAME NUMBER, need NAME NUMBER, same NAME VALUE" else
    (if bytes_eq w (codes "run") then codes "run alone" else
    (if bytes_eq w (codes "begin") then codes "begin TX" else
    (if bytes_eq w (codes "try") then codes "try NODE SLOT" else
    (if bytes_eq w (codes "deliver") then codes "deliver FROM TO PACKET" else
    (if bytes_eq w (codes "tick") then codes "tick NODE" else
    (if bytes_eq w (codes "stop") then codes "stop NODE" else
    (if bytes_eq w (codes "view") then codes "view and rising nodes" else
    (if bytes_eq w (codes "install") then codes "install NODE EPOCH" else codes "end alone"))))))))))))))

-- the first word of line n
abbrev pub opening_word : List ℕ → ℕ → List ℕ
opening_word bytes n = first_word (words_at bytes n)

-- the form of a line with this first word, if it may stand behind a line with that one; else the words that may
unfoldable pub line_form : List ℕ → List ℕ → List ℕ
line_form word before = if is_among word (cut 32 (next_text before)) then form_text word else next_text before

-- what may stand in line n
abbrev pub wanted : List ℕ → ℕ → List ℕ
wanted bytes n = codes "; wanted: " ++ line_form (opening_word bytes n) (opening_word bytes (n - 1))

-- ---- the fault

-- what is wrong with a word or a line
unfoldable pub cause_text : Kind → List ℕ
cause_text kinds.Missing = codes "the input ends here"
cause_text kinds.LineEnd = codes "no line feed ends this line"
cause_text kinds.Word = codes "does not fit"
cause_text kinds.Text = codes "has no text of 1 to 32 bytes from ! to ~ behind its '"
cause_text kinds.Number = codes "is no number: digits without sign and leading zero, below 2^64"
cause_text kinds.Range = codes "is out of its range"
cause_text kinds.Name = codes "is no name: a letter and then letters, digits and _, at most 16 in all"
cause_text kinds.Twice = codes "comes a second time, or out of order"
cause_text kinds.Unknown = codes "is the name of no object that is declared above"
cause_text kinds.Long = codes "is more than there may be"
cause_text kinds.Extra = codes "nothing may follow the line 'end'"
cause_text kinds.Live = codes "begins a line that no live run has"
cause_text kinds.Size = codes "a script has at most 4,194,304 bytes"

-- what is wrong with word j of a line, counted from 0; where there is none, one is missing
unfoldable pub word_text : Option (List ℕ) → ℕ → Kind → List ℕ
word_text None j kind = codes "a word is missing at its end"
word_text (Some w) j kind = codes "word " ++ decimal (j + 1) ++ codes ", " ++ quoted w ++ codes ", " ++ cause_text kind

-- what is wrong with the first word of line n that does not fit; where the bytes have no room for one more word, a word that does
-- not fit is not told from one that is missing
unfoldable pub faulty_text : List ℕ → ℕ → Kind → List ℕ
faulty_text bytes n kind =
    if is_word kind && nat_lt 4194298 (length bytes) then codes "a word does not fit, or one is missing" else
    word_text (word_of (words_at bytes n) (fitting bytes n kind)) (fitting bytes n kind) kind

-- what is wrong with line n, and what may stand there; a line that does not end, or is one too many, has nothing that may
unfoldable pub fault_text : List ℕ → ℕ → Kind → List ℕ
fault_text bytes n kinds.LineEnd = cause_text kinds.LineEnd
fault_text bytes n kinds.Extra = cause_text kinds.Extra
fault_text bytes n kinds.Missing = cause_text kinds.Missing ++ wanted bytes n
fault_text bytes n kind = faulty_text bytes n kind ++ wanted bytes n

-- line n with this text
unfoldable pub line_text : ℕ → List ℕ → List ℕ
line_text n line = codes "line " ++ decimal n ++ codes ", " ++ quoted line ++ codes ": "

-- a line that ends with CR and LF: its last byte is 13
abbrev pub ends_with_return : List ℕ → Bool
ends_with_return line = bytes_eq (13 ∷ []) (drop (length line - 1) line)

unfoldable pub return_hint : List ℕ → List ℕ
return_hint line = if ends_with_return line then codes "; this line ends with CR and LF: write LF alone" else []

-- a byte order mark in front
abbrev pub begins_with_mark : List ℕ → Bool
begins_with_mark bytes = bytes_eq (239 ∷ 187 ∷ 191 ∷ []) (take 3 bytes)

unfoldable pub mark_hint : List ℕ → List ℕ
mark_hint bytes = if begins_with_mark bytes then codes "; the input begins with a byte order mark: leave it out" else []

-- the line for too many bytes
abbrev pub size_line : List ℕ
size_line = cause_text kinds.Size ++ line_end

-- the line that explains a fault of bytes; a fault of line 0 is that of too many
unfoldable pub explanation : List ℕ → ScriptFault → List ℕ
explanation bytes f =
    if f.line == 0 then size_line else
    line_text f.line (line_at bytes f.line) ++ fault_text bytes f.line f.kind ++ return_hint (line_at bytes f.line) ++ mark_hint bytes ++ line_end

-- the line that explains the first fault of bytes; nothing, if they are a script
unfoldable pub explained : List ℕ → Result Script ScriptFault → List ℕ
explained bytes (Ok s) = []
explained bytes (Err f) = explanation bytes f
