-- What the parts of a report show: which of their lines begin with a byte.
use Rattle.std.proofs.Common.{ℕ, suc, ◌≡◌, ◌<◌, true, false, List, [], ◌∷◌, length, map, Option, Some, None, refl, arith, inl, inr, subst, sym, append_assoc}
use Rattle.std.specs.Prelude.{◌++◌, ◌==◌, ◌⊎◌, decimal, codes, All}
use Rattle.std.proofs.lemmas.Bool.{cond_both, ne_eqb}
use Rattle.std.proofs.lemmas.List.Elements.{All-head, All-tail}
use Rattle.std.specs.List.{flat_map}
use Rattle.zeus_base.specs.declared.step.Step.{Step}
use Rattle.zeus_packet.specs.declared.letter.Packet.{Packet}
use Rattle.zeus_model.specs.declared.script.Script.{Script}
use Rattle.zeus_model.specs.declared.state.Copy.{Copy}
use Rattle.zeus_model.specs.Book.{Book, Point, record_of, reply_or}
use Rattle.zeus_model.specs.Readers.{owner, is_lost, live_among, tx_state}
use Rattle.zeus_model.specs.ReportText.{step_text, answer_line, point_lines, acked_lines, packet_lines, event_text, steps_text, history_line, tx_state_lines, copy_line, copy_lines, holders_text, object_text, objects_text, final_text, report_head, report, start_of}
use Rattle.zeus_model.specs.ReportWords.{number, named_object, reply_text, answer_text, body_text, tx_state_text, optional_node, nodes_text, state_text}
use Rattle.zeus_model.specs.Sound.{latest_place}
use Rattle.zeus_model.specs.Spelling.{word, value_text}
use Rattle.zeus_model.specs.State.{copy}
use Rattle.zeus_model.specs.Tables.{below}
use Rattle.zeus_model.specs.World.{World, Event, node, events, happens, stepped, run}
use Rattle.printed_history.specs.Lines.{begins_with}
use Rattle.printed_history.specs.Printed.{printed_point, printed_ack, printed_history}
use Rattle.printed_history.proofs.Lines.{lacks, is_line, is_line-together, decimal-is_line, IsQuiet, quiet-append, quiet-decimal, Shows, shows-none, shows-append, shows-line, shows-quiet, shows-left, shows-right}
use Rattle.printed_history.proofs.Nodes.{OneLineCopy, OneLineNode}
use Rattle.printed_history.proofs.Pieces.{OneLineName, named-is_line, nodes-is_line, optional_node-is_line, state-is_line, reply-is_line, answer-is_line, body-is_line, step-is_line, tx_state-is_line, points-is_line}
use Rattle.printed_history.proofs.Systems.{OneLineBody}
use Rattle.printed_history.proofs.Values.{OneLineReply}

-- ---- the lines of a step

-- a transaction's point with the reply that its record has
abbrev pub point_now : Book → ℕ → Point
point_now b k = record { id = k; reply = reply_or (record_of b k).reply }

abbrev pub OneLinePoint : Book → ℕ → Type 0
OneLinePoint b k = OneLineReply (reply_or (record_of b k).reply)

point-is_line : (b : Book) (k : ℕ) → OneLinePoint b k → is_line (printed_point (point_now b k)) ≡ true
unfolding lacks
point-is_line b k h = is_line-together (codes "*") (number k ∷ word (reply_text (reply_or (record_of b k).reply)) ∷ []) (refl, (decimal-is_line k, reply-is_line (reply_or (record_of b k).reply) h))

-- the lines of points are those that begin with `*`: one for each point told
pub points-found : (b : Book) (ks : List ℕ) → All (OneLinePoint b) ks → Shows 42 (point_lines b ks) (map (λ k. printed_point (point_now b k)) ks)
unfolding point_lines begins_with
points-found b [] h = shows-none 42
points-found b (k ∷ ks) h =
    shows-append 42 (printed_point (point_now b k) ++ 10 ∷ []) (point_lines b ks) (printed_point (point_now b k) ∷ []) (map (λ j. printed_point (point_now b j)) ks)
    (shows-line 42 (printed_point (point_now b k)) (point-is_line b k (All-head (OneLinePoint b) k ks h)))
    (points-found b ks (All-tail (OneLinePoint b) k ks h))

-- no line of the points begins with a byte other than `*`
pub points-passed : (byte : ℕ) (b : Book) (ks : List ℕ) → (42 == byte) ≡ false → All (OneLinePoint b) ks → Shows byte (point_lines b ks) []
unfolding point_lines IsQuiet
points-passed byte b [] other h = shows-none byte
points-passed byte b (k ∷ ks) other h =
    shows-right byte (printed_point (point_now b k) ++ 10 ∷ []) (point_lines b ks) []
    (shows-quiet byte (printed_point (point_now b k)) other (point-is_line b k (All-head (OneLinePoint b) k ks h)))
    (points-passed byte b ks other (All-tail (OneLinePoint b) k ks h))

ack-is_line : (k : ℕ) → is_line (printed_ack k) ≡ true
unfolding lacks
ack-is_line k = decimal-is_line k

-- the lines of acknowledgements are those that begin with `!`: one for each told
pub acks-found : (ks : List ℕ) → Shows 33 (acked_lines ks) (map printed_ack ks)
unfolding acked_lines begins_with
acks-found [] = shows-none 33
acks-found (k ∷ ks) =
    shows-append 33 (printed_ack k ++ 10 ∷ []) (acked_lines ks) (printed_ack k ∷ []) (map printed_ack ks) (shows-line 33 (printed_ack k) (ack-is_line k)) (acks-found ks)

-- no line of the acknowledgements begins with a byte other than `!`
pub acks-passed : (byte : ℕ) (ks : List ℕ) → (33 == byte) ≡ false → Shows byte (acked_lines ks) []
unfolding acked_lines IsQuiet
acks-passed byte [] other = shows-none byte
acks-passed byte (k ∷ ks) other =
    shows-right byte (printed_ack k ++ 10 ∷ []) (acked_lines ks) [] (shows-quiet byte (printed_ack k) other (ack-is_line k)) (acks-passed byte ks other)

abbrev pub OneLinePacket : Packet → Type 0
OneLinePacket p = OneLineBody p.letter.body

-- the line of a packet
abbrev printed_packet : List (List ℕ) → Packet → List ℕ
printed_packet names p = codes ">" ++ number p.letter.from ++ number p.letter.to ++ number p.number ++ number p.letter.epoch ++ word (body_text names p.letter.body)

packet-is_line : (names : List (List ℕ)) (p : Packet) → All OneLineName names → OneLinePacket p → is_line (printed_packet names p) ≡ true
unfolding lacks
packet-is_line names p named h =
    is_line-together (codes ">") (number p.letter.from ∷ number p.letter.to ∷ number p.number ∷ number p.letter.epoch ∷ word (body_text names p.letter.body) ∷ [])
    (refl, (decimal-is_line p.letter.from, (decimal-is_line p.letter.to, (decimal-is_line p.number, (decimal-is_line p.letter.epoch, body-is_line names p.letter.body named h)))))

-- no line of the packets begins with a byte other than `>`
pub packets-passed : (byte : ℕ) (names : List (List ℕ)) (ps : List Packet) → (62 == byte) ≡ false → All OneLineName names → All OneLinePacket ps → Shows byte (packet_lines names ps) []
unfolding packet_lines IsQuiet
packets-passed byte names [] other named h = shows-none byte
packets-passed byte names (p ∷ ps) other named h =
    shows-right byte (printed_packet names p ++ 10 ∷ []) (packet_lines names ps) []
    (shows-quiet byte (printed_packet names p) other (packet-is_line names p named (All-head OneLinePacket p ps h)))
    (packets-passed byte names ps other named (All-tail OneLinePacket p ps h))

-- the line of an answer begins with the number of its step
abbrev printed_answer : List (List ℕ) → ℕ → Step → Event → List ℕ
printed_answer names i s e = decimal i ++ word (step_text s) ++ codes " = " ++ answer_text names e.answer

-- no line of an answer begins with a byte that is no digit
pub answer-passed : (byte : ℕ) (names : List (List ℕ)) (i : ℕ) (s : Step) (e : Event) → (byte < 48) ⊎ (57 < byte) → All OneLineName names → Shows byte (answer_line names i s e) []
unfolding lacks
answer-passed byte names i s e other named =
    shows-quiet byte (printed_answer names i s e)
    (quiet-append byte (decimal i ++ word (step_text s) ++ codes " = ") (answer_text names e.answer)
    (quiet-append byte (decimal i ++ word (step_text s)) (codes " = ") (quiet-append byte (decimal i) (word (step_text s)) (quiet-decimal byte i other))))
    (is_line-together (decimal i) (word (step_text s) ∷ codes " = " ∷ answer_text names e.answer ∷ []) (decimal-is_line i, (step-is_line s, (refl, answer-is_line names e.answer named))))

-- what a step tells and sends is of one line each
pub record OneLineEvent (e : Event) : Type 0 where
  pub points : All (OneLinePoint e.world.book) e.points
  pub sent : All OneLinePacket e.sent

-- the lines of a step that begin with `*` are those of the points that it tells
pub event-points : (names : List (List ℕ)) (i : ℕ) (s : Step) (e : Event) → All OneLineName names → OneLineEvent e → Shows 42 (event_text names i s e) (map (λ k. printed_point (point_now e.world.book k)) e.points)
event-points names i s e named h =
    let found = map (λ k. printed_point (point_now e.world.book k)) e.points in
    let a = answer_line names i s e in
    let p = point_lines e.world.book e.points in
    let k = acked_lines e.acked in
    shows-left 42 (a ++ p ++ k) (packet_lines names e.sent) found
    (shows-left 42 (a ++ p) k found (shows-right 42 a p found (answer-passed 42 names i s e (inl (omega arith)) named) (points-found e.world.book e.points h.points)) (acks-passed 42 e.acked refl))
    (packets-passed 42 names e.sent refl named h.sent)

-- the lines of a step that begin with `!` are those of the acknowledgements that it tells
pub event-acks : (names : List (List ℕ)) (i : ℕ) (s : Step) (e : Event) → All OneLineName names → OneLineEvent e → Shows 33 (event_text names i s e) (map printed_ack e.acked)
event-acks names i s e named h =
    let found = map printed_ack e.acked in
    let a = answer_line names i s e in
    let p = point_lines e.world.book e.points in
    let k = acked_lines e.acked in
    shows-left 33 (a ++ p ++ k) (packet_lines names e.sent) found
    (shows-right 33 (a ++ p) k found (shows-right 33 a p [] (answer-passed 33 names i s e (inl (omega arith)) named) (points-passed 33 e.world.book e.points refl h.points)) (acks-found e.acked))
    (packets-passed 33 names e.sent refl named h.sent)

-- no line of a step begins with a byte above `>`
pub event-passed : (byte : ℕ) (names : List (List ℕ)) (i : ℕ) (s : Step) (e : Event) → 62 < byte → All OneLineName names → OneLineEvent e → Shows byte (event_text names i s e) []
event-passed byte names i s e above named h =
    let a = answer_line names i s e in
    let p = point_lines e.world.book e.points in
    let k = acked_lines e.acked in
    shows-right byte (a ++ p ++ k) (packet_lines names e.sent) []
    (shows-right byte (a ++ p) k []
    (shows-right byte a p [] (answer-passed byte names i s e (inr (omega (arith, above))) named) (points-passed byte e.world.book e.points (ne_eqb 42 byte (λ x. absurd (omega (arith, above, x)))) h.points))
    (acks-passed byte e.acked (ne_eqb 33 byte (λ x. absurd (omega (arith, above, x))))))
    (packets-passed byte names e.sent (ne_eqb 62 byte (λ x. absurd (omega (arith, above, x)))) named h.sent)

-- what the steps show, one after another
pub steps-show : (byte : ℕ) (names : List (List ℕ)) (f : Event → List (List ℕ)) → ((i : ℕ) (s : Step) (e : Event) → OneLineEvent e → Shows byte (event_text names i s e) (f e))
    → (w : World) (i : ℕ) (ss : List Step) → All OneLineEvent (events w ss) → Shows byte (steps_text names w i ss) (flat_map f (events w ss))
unfolding steps_text events
steps-show byte names f each w i [] h = shows-none byte
steps-show byte names f each w i (s ∷ ss) h =
    shows-append byte (event_text names i s (happens w s)) (steps_text names (stepped w s) (suc i) ss) (f (happens w s)) (flat_map f (events (stepped w s) ss))
    (each i s (happens w s) (All-head OneLineEvent (happens w s) (events (stepped w s) ss) h))
    (steps-show byte names f each (stepped w s) (suc i) ss (All-tail OneLineEvent (happens w s) (events (stepped w s) ss) h))

-- ---- how the world stands at the end

history-is_line : (ps : List Point) → is_line (printed_history ps) ≡ true
unfolding lacks
history-is_line ps = points-is_line ps

-- the line that begins with `h` is that of the history
pub history-found : (b : Book) → Shows 104 (history_line b) (printed_history b.points ∷ [])
unfolding begins_with
history-found b = shows-line 104 (printed_history b.points) (history-is_line b.points)

-- the line of the history begins with no byte but `h`
pub history-passed : (byte : ℕ) (b : Book) → (104 == byte) ≡ false → Shows byte (history_line b) []
unfolding IsQuiet
history-passed byte b other = shows-quiet byte (printed_history b.points) other (history-is_line b.points)

-- none of the lines below the history begins with the byte
pub record IsBelow (byte : ℕ) : Type 0 where
  pub tx : (116 == byte) ≡ false
  pub copy : (99 == byte) ≡ false
  pub lost : (108 == byte) ≡ false
  pub object : (111 == byte) ≡ false
  pub finish : (101 == byte) ≡ false

tx_states-passed : (byte : ℕ) (w : World) (ks : List ℕ) → IsBelow byte → Shows byte (tx_state_lines w ks) []
unfolding tx_state_lines IsQuiet lacks
tx_states-passed byte w [] other = shows-none byte
tx_states-passed byte w (k ∷ ks) other =
    shows-right byte (codes "tx" ++ number k ++ word (tx_state_text (tx_state w k)) ++ 10 ∷ []) (tx_state_lines w ks) []
    (shows-quiet byte (codes "tx" ++ number k ++ word (tx_state_text (tx_state w k))) other.tx
    (is_line-together (codes "tx") (number k ∷ word (tx_state_text (tx_state w k)) ∷ []) (refl, (decimal-is_line k, tx_state-is_line (tx_state w k)))))
    (tx_states-passed byte w ks other)

copy-passed : (byte : ℕ) (names : List (List ℕ)) (x n : ℕ) (c : Option Copy) → IsBelow byte → All OneLineName names → OneLineCopy c → Shows byte (copy_line names x n c) []
unfolding copy_line IsQuiet lacks OneLineCopy
copy-passed byte names x n None other named h = shows-none byte
copy-passed byte names x n (Some c) other named h =
    shows-quiet byte (codes "copy" ++ named_object names x ++ number n ++ word (state_text c.state) ++ number c.ver ++ word (value_text c.value)) other.copy
    (is_line-together (codes "copy") (named_object names x ∷ number n ∷ word (state_text c.state) ∷ number c.ver ∷ word (value_text c.value) ∷ [])
    (refl, (named-is_line names x named, (decimal-is_line n, (state-is_line c.state, (decimal-is_line c.ver, h.text))))))

-- the world's nodes have texts of one line
abbrev pub OneLineNodes : World → Type 0
OneLineNodes w = (n : ℕ) → OneLineNode (node w n)

copies-passed : (byte : ℕ) (names : List (List ℕ)) (w : World) (x : ℕ) (ns : List ℕ) → IsBelow byte → All OneLineName names → OneLineNodes w → Shows byte (copy_lines names w x ns) []
unfolding copy_lines
copies-passed byte names w x [] other named h = shows-none byte
copies-passed byte names w x (n ∷ ns) other named h =
    shows-right byte (copy_line names x n (copy (node w n) x)) (copy_lines names w x ns) []
    (copy-passed byte names x n (copy (node w n) x) other named ((h n).copies x)) (copies-passed byte names w x ns other named h)

holders-passed : (byte : ℕ) (names : List (List ℕ)) (w : World) (x : ℕ) → IsBelow byte → All OneLineName names → OneLineNodes w → Shows byte (holders_text names w x) []
unfolding holders_text IsQuiet lacks
holders-passed byte names w x other named h =
    cond_both (is_lost w x) (codes "lost" ++ named_object names x ++ 10 ∷ []) (copy_lines names w x (live_among w (latest_place w x).replicas)) (λ t. Shows byte t [])
    (λ _. shows-quiet byte (codes "lost" ++ named_object names x) other.lost (named-is_line names x named))
    (λ _. copies-passed byte names w x (live_among w (latest_place w x).replicas) other named h)

object-passed : (byte : ℕ) (names : List (List ℕ)) (w : World) (x : ℕ) → IsBelow byte → All OneLineName names → OneLineNodes w → Shows byte (object_text names w x) []
unfolding IsQuiet lacks
object-passed byte names w x other named h =
    shows-right byte (codes "object" ++ named_object names x ++ optional_node (owner w x) ++ word (nodes_text (latest_place w x).replicas) ++ 10 ∷ []) (holders_text names w x) []
    (shows-quiet byte (codes "object" ++ named_object names x ++ optional_node (owner w x) ++ word (nodes_text (latest_place w x).replicas)) other.object
    (is_line-together (codes "object") (named_object names x ∷ optional_node (owner w x) ∷ word (nodes_text (latest_place w x).replicas) ∷ [])
    (refl, (named-is_line names x named, (optional_node-is_line (owner w x), nodes-is_line (latest_place w x).replicas)))))
    (holders-passed byte names w x other named h)

objects-passed : (byte : ℕ) (names : List (List ℕ)) (w : World) (xs : List ℕ) → IsBelow byte → All OneLineName names → OneLineNodes w → Shows byte (objects_text names w xs) []
unfolding objects_text
objects-passed byte names w [] other named h = shows-none byte
objects-passed byte names w (x ∷ xs) other named h =
    shows-right byte (object_text names w x) (objects_text names w xs) [] (object-passed byte names w x other named h) (objects-passed byte names w xs other named h)

-- the end of a report, by its line of the history
pub final-shows : (byte : ℕ) (names : List (List ℕ)) (w : World) (found : List (List ℕ)) → IsBelow byte → All OneLineName names → OneLineNodes w → Shows byte (history_line w.book) found → Shows byte (final_text names w) found
unfolding IsQuiet lacks
final-shows byte names w found other named h shown =
    let line = history_line w.book in
    let txs = tx_state_lines w (below (length w.txs)) in
    let objects = objects_text names w (below (length w.config.objects)) in
    subst (λ t. Shows byte t found) (sym (append_assoc (line ++ txs ++ objects) (codes "end") (10 ∷ [])))
    (shows-left byte (line ++ txs ++ objects) (codes "end" ++ 10 ∷ []) found
    (shows-left byte (line ++ txs) objects found
    (shows-left byte line txs found shown (tx_states-passed byte w (below (length w.txs)) other))
    (objects-passed byte names w (below (length w.config.objects)) other named h))
    (shows-quiet byte (codes "end") other.finish refl))

-- a report shows what its steps and its end show
pub report-shows : (byte : ℕ) (s : Script) (steps ended : List (List ℕ)) → (114 == byte) ≡ false → Shows byte (steps_text s.names (start_of s) 0 s.steps) steps
    → Shows byte (final_text s.names (run (start_of s) s.steps)) ended → Shows byte (report s) (steps ++ ended)
unfolding report IsQuiet lacks
report-shows byte s steps ended other shown standing =
    shows-append byte (report_head s.config.version ++ steps_text s.names (start_of s) 0 s.steps) (final_text s.names (run (start_of s) s.steps)) steps ended
    (shows-right byte (report_head s.config.version) (steps_text s.names (start_of s) 0 s.steps) steps
    (shows-quiet byte (codes "report" ++ number s.config.version) other (decimal-is_line s.config.version)) shown)
    standing
