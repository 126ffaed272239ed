-- What a report prints within a line lacks byte 10.
use Rattle.std.proofs.Common.{ℕ, ◌≡◌, ◌≢◌, true, List, [], ◌∷◌, map, Option, Some, None, refl, arith, inl, inr}
use Rattle.std.specs.Prelude.{◌++◌, decimal, codes, All}
use Rattle.std.proofs.lemmas.Bool.{ne_eqb}
use Rattle.std.proofs.lemmas.List.Elements.{All-nil, All-cons, All-head, All-tail}
use Rattle.zeus_base.specs.declared.order.Stamp.{Stamp}
use Rattle.zeus_base.specs.declared.order.Stream.{Stream}
use Rattle.zeus_base.specs.declared.step.Step.{Step}
use Rattle.zeus_base.specs.declared.step.Step.TheVariants.{Begin, Try, Deliver, Tick, Stop, View, Install}
use Rattle.zeus_base.specs.declared.value.Value.{Value}
use Rattle.zeus_txn.specs.declared.reply.Reply.{Reply}
use Rattle.zeus_packet.specs.declared.letter.Body.{Body}
use Rattle.zeus_packet.specs.declared.letter.Body.TheVariants.{RInv, RAck, RVal, OReq, OInv, OAck, ONack, OVal, Recovered}
use Rattle.zeus_packet.specs.declared.letter.Cause.{Cause}
use Rattle.zeus_packet.specs.declared.letter.Cause.TheVariants.{OwnStream, Window, NotDirectory, Proposed, Owns, HasCopy, NotReader, NoSource, Degree, IsSource, WornOut, NoCopy, Held, NotValid, Kept, NotArbiter, NotCollector, OwnPlace}
use Rattle.zeus_packet.specs.declared.letter.State.{State}
use Rattle.zeus_packet.specs.declared.letter.State.TheVariants.{Valid, Invalid, Write}
use Rattle.zeus_packet.specs.declared.place.Place.{Place}
use Rattle.zeus_packet.specs.declared.place.Proposal.{Proposal}
use Rattle.zeus_packet.specs.declared.place.Want.{Want}
use Rattle.zeus_packet.specs.declared.place.Want.TheVariants.{Own, Read, Leave}
use Rattle.zeus_packet.specs.declared.write.Content.{Content}
use Rattle.zeus_packet.specs.declared.write.Write.{Write as WriteOf}
use Rattle.zeus_model.specs.declared.answer.Answer.{Answer}
use Rattle.zeus_model.specs.declared.answer.Answer.TheVariants.{Begin as BeginAnswer, Twice, Waits, Try as TryAnswer, NoPacket, Receive, Tick as TickAnswer, Stop as StopAnswer, View as ViewAnswer, NoView, Install as InstallAnswer}
use Rattle.zeus_model.specs.declared.answer.Begin.{Begin as BeginOutcome}
use Rattle.zeus_model.specs.declared.answer.Begin.TheVariants.{Begun, Stopped as BeginStopped, Busy}
use Rattle.zeus_model.specs.declared.answer.Install.{Install as InstallOutcome}
use Rattle.zeus_model.specs.declared.answer.Install.TheVariants.{Installed, Stopped as InstallStopped, Old}
use Rattle.zeus_model.specs.declared.answer.Made.{Made}
use Rattle.zeus_model.specs.declared.answer.Made.TheVariants.{Installed as ViewInstalled, Empty, NotMember, NotStopped}
use Rattle.zeus_model.specs.declared.answer.Outcome.{Outcome}
use Rattle.zeus_model.specs.declared.answer.Outcome.TheVariants.{Stopped, NotMine, OtherEpoch, NotOpen, Taken, Again, Gap, Older, Settled, Refused}
use Rattle.zeus_model.specs.declared.answer.Stop.{Stop as StopOutcome}
use Rattle.zeus_model.specs.declared.answer.Stop.TheVariants.{Done, Stopped as StopStopped}
use Rattle.zeus_model.specs.declared.answer.Ticked.{Ticked}
use Rattle.zeus_model.specs.declared.answer.Ticked.TheVariants.{Ticked as TickDone, Stopped as TickStopped}
use Rattle.zeus_model.specs.declared.answer.Tried.{Tried}
use Rattle.zeus_model.specs.declared.answer.Tried.TheVariants.{Stopped as TryStopped, Nothing, NoCopy as NoCopyToRead, NotValid as NotValidToRead, Read as ReadDone, PipeFull, NotOwner, Held as HeldElsewhere, WornOut as TryWornOut, Committed}
use Rattle.zeus_model.specs.declared.answer.TxState.{TxState}
use Rattle.zeus_model.specs.declared.answer.TxState.TheVariants.{New, Current, Pending, Passed, Acked, Refused as TxRefused}
use Rattle.zeus_model.specs.Names.{IsName, IsNameByte}
use Rattle.zeus_model.specs.Book.{Point}
use Rattle.zeus_model.specs.ReportText.{points_text}
use Rattle.zeus_model.specs.ReportWords.{number, named_object, stream_text, stamp_text, more_nodes_text, nodes_text, optional_node, state_text, cause_text, values_text, outcome_text, reply_text, begin_text, tried_text, received_text, ticked_text, stopped_text, made_text, installed_text, answer_text, writes_text, want_text, place_text, proposal_text, content_text, body_text, tx_state_text}
use Rattle.zeus_model.specs.Spelling.{word, spaced, words_text, step_words, value_text}
use Rattle.printed_history.proofs.Lines.{lacks, is_line, lacks-append, is_line-together, decimal-is_line}
use Rattle.printed_history.proofs.Values.{IsOneLine, OneLineReply}
use Rattle.printed_history.proofs.Nodes.{OneLineWrite, OneLineWrites, OneLineContent, nth-one_line}
use Rattle.printed_history.proofs.Systems.{OneLineBody}

-- ---- words

abbrev pub OneLineName : List ℕ → Type 0
OneLineName name = is_line name ≡ true

name_bytes : (bytes : List ℕ) → All IsNameByte bytes → is_line bytes ≡ true
unfolding lacks
name_bytes [] h = refl
name_bytes (b ∷ bs) h =
    let first = All-head IsNameByte b bs h in
    let other : b ≢ 10 = λ e. elim first [
      | inl upper ↦ absurd (omega (arith, upper.0, e))
      | inr more ↦ elim more [
        | inl lower ↦ absurd (omega (arith, lower.0, e))
        | inr rest ↦ elim rest [ inl digit ↦ absurd (omega (arith, digit.0, e)) | inr line ↦ absurd (omega (arith, line, e)) ]
      ]
    ] in
    rw (ne_eqb b 10 other) (name_bytes bs (All-tail IsNameByte b bs h))

-- names stay within a line
pub names-one_line : (names : List (List ℕ)) → All IsName names → All OneLineName names
names-one_line [] h = All-nil OneLineName
names-one_line (n ∷ ns) h = All-cons OneLineName n ns (let first = All-head IsName n ns h in name_bytes n first.3) (names-one_line ns (All-tail IsName n ns h))

-- the name of an object
pub named-is_line : (names : List (List ℕ)) (x : ℕ) → All OneLineName names → is_line (named_object names x) ≡ true
unfolding lacks
named-is_line names x h = nth-one_line OneLineName [] names x refl h

dotted : (m n : ℕ) → is_line (decimal m ++ codes "." ++ decimal n) ≡ true
unfolding lacks
dotted m n = lacks-append 10 (decimal m ++ codes ".") (decimal n) (lacks-append 10 (decimal m) (codes ".") (decimal-is_line m) refl) (decimal-is_line n)

-- a printed stamp stays within a line
pub stamp-is_line : (s : Stamp) → is_line (stamp_text s) ≡ true
stamp-is_line s = dotted s.ver s.driver

-- a printed stream stays within a line
pub stream-is_line : (s : Stream) → is_line (stream_text s) ≡ true
stream-is_line s = dotted s.node s.slot

more_nodes-is_line : (ns : List ℕ) → is_line (more_nodes_text ns) ≡ true
unfolding lacks more_nodes_text
more_nodes-is_line [] = refl
more_nodes-is_line (n ∷ ns) = lacks-append 10 (decimal n) (more_nodes_text ns) (decimal-is_line n) (more_nodes-is_line ns)

-- printed nodes stay within a line
pub nodes-is_line : (ns : List ℕ) → is_line (nodes_text ns) ≡ true
unfolding lacks nodes_text
nodes-is_line [] = refl
nodes-is_line (n ∷ ns) = lacks-append 10 (decimal n) (more_nodes_text ns) (decimal-is_line n) (more_nodes-is_line ns)

-- a printed node, or the sign for none, stays within a line
pub optional_node-is_line : (o : Option ℕ) → is_line (optional_node o) ≡ true
unfolding lacks optional_node
optional_node-is_line None = refl
optional_node-is_line (Some n) = decimal-is_line n

-- a printed state of a copy stays within a line
pub state-is_line : (s : State) → is_line (state_text s) ≡ true
unfolding lacks state_text
state-is_line Valid = refl
state-is_line Invalid = refl
state-is_line Write = refl

cause-is_line : (c : Cause) → is_line (cause_text c) ≡ true
unfolding lacks cause_text
cause-is_line OwnStream = refl
cause-is_line Window = refl
cause-is_line NotDirectory = refl
cause-is_line (Proposed stamp) = stamp-is_line stamp
cause-is_line Owns = refl
cause-is_line HasCopy = refl
cause-is_line NotReader = refl
cause-is_line NoSource = refl
cause-is_line Degree = refl
cause-is_line IsSource = refl
cause-is_line WornOut = refl
cause-is_line NoCopy = refl
cause-is_line (Held s) = decimal-is_line s
cause-is_line (NotValid s) = state-is_line s
cause-is_line (Kept s) = decimal-is_line s
cause-is_line NotArbiter = refl
cause-is_line NotCollector = refl
cause-is_line OwnPlace = refl

-- ---- replies

values-is_line : (vs : List Value) → All IsOneLine vs → is_line (values_text vs) ≡ true
unfolding values_text lacks
values-is_line [] h = refl
values-is_line (v ∷ vs) h = lacks-append 10 (word (value_text v)) (values_text vs) (All-head IsOneLine v vs h).text (values-is_line vs (All-tail IsOneLine v vs h))

outcome-is_line : (o : Option ℕ) → is_line (outcome_text o) ≡ true
unfolding outcome_text lacks
outcome-is_line None = refl
outcome-is_line (Some place) = decimal-is_line place

-- if the texts of a reply stay within a line, then the printed reply does
pub reply-is_line : (r : Reply) → OneLineReply r → is_line (reply_text r) ≡ true
reply-is_line r h = lacks-append 10 (outcome_text r.failed) (values_text r.values) (outcome-is_line r.failed) (values-is_line r.values h)

-- ---- answers

begin-is_line : (a : BeginOutcome) → is_line (begin_text a) ≡ true
unfolding lacks begin_text
begin-is_line Begun = refl
begin-is_line BeginStopped = refl
begin-is_line (Busy k) = decimal-is_line k

tried-is_line : (names : List (List ℕ)) (a : Tried) → All OneLineName names → is_line (tried_text names a) ≡ true
unfolding lacks tried_text
tried-is_line names TryStopped h = refl
tried-is_line names Nothing h = refl
tried-is_line names (NoCopyToRead k x) h = named-is_line names x h
tried-is_line names (NotValidToRead x state) h = is_line-together (codes "not valid") (named_object names x ∷ word (state_text state) ∷ []) (refl, (named-is_line names x h, state-is_line state))
tried-is_line names (ReadDone k reply) h = refl
tried-is_line names PipeFull h = refl
tried-is_line names (NotOwner x) h = named-is_line names x h
tried-is_line names (HeldElsewhere x slot) h = is_line-together (codes "held") (named_object names x ∷ number slot ∷ []) (refl, (named-is_line names x h, decimal-is_line slot))
tried-is_line names TryWornOut h = refl
tried-is_line names (Committed k n reply) h = decimal-is_line n

received-is_line : (a : Outcome) → is_line (received_text a) ≡ true
unfolding lacks received_text
received-is_line Stopped = refl
received-is_line (NotMine n) = decimal-is_line n
received-is_line (OtherEpoch theirs mine) = is_line-together (codes "other epoch") (number theirs ∷ number mine ∷ []) (refl, (decimal-is_line theirs, decimal-is_line mine))
received-is_line NotOpen = refl
received-is_line Taken = refl
received-is_line Again = refl
received-is_line (Gap n) = decimal-is_line n
received-is_line (Older stamp) = stamp-is_line stamp
received-is_line (Settled stamp) = stamp-is_line stamp
received-is_line (Refused cause) = cause-is_line cause

ticked-is_line : (a : Ticked) → is_line (ticked_text a) ≡ true
unfolding lacks ticked_text
ticked-is_line TickDone = refl
ticked-is_line TickStopped = refl

stopped-is_line : (a : StopOutcome) → is_line (stopped_text a) ≡ true
unfolding lacks stopped_text
stopped-is_line Done = refl
stopped-is_line StopStopped = refl

made-is_line : (a : Made) → is_line (made_text a) ≡ true
unfolding lacks made_text
made-is_line (ViewInstalled e) = decimal-is_line e
made-is_line Empty = refl
made-is_line (NotMember n) = decimal-is_line n
made-is_line (NotStopped n) = decimal-is_line n

installed-is_line : (a : InstallOutcome) → is_line (installed_text a) ≡ true
unfolding lacks installed_text
installed-is_line Installed = refl
installed-is_line InstallStopped = refl
installed-is_line (Old e) = decimal-is_line e

-- if names stay within a line, then a printed answer does
pub answer-is_line : (names : List (List ℕ)) (a : Answer) → All OneLineName names → is_line (answer_text names a) ≡ true
unfolding lacks answer_text
answer-is_line names (BeginAnswer a) h = begin-is_line a
answer-is_line names Twice h = refl
answer-is_line names (Waits k) h = decimal-is_line k
answer-is_line names (TryAnswer a) h = tried-is_line names a h
answer-is_line names (NoPacket count) h = decimal-is_line count
answer-is_line names (Receive a) h = received-is_line a
answer-is_line names (TickAnswer a) h = ticked-is_line a
answer-is_line names (StopAnswer a) h = stopped-is_line a
answer-is_line names (ViewAnswer a) h = made-is_line a
answer-is_line names (NoView count) h = decimal-is_line count
answer-is_line names (InstallAnswer a) h = installed-is_line a

-- ---- letters

writes-is_line : (names : List (List ℕ)) (ws : List WriteOf) → All OneLineName names → OneLineWrites ws → is_line (writes_text names ws) ≡ true
unfolding lacks writes_text
writes-is_line names [] h g = refl
writes-is_line names (w ∷ ws) h g =
    is_line-together (named_object names w.obj) (number w.ver ∷ word (value_text w.value) ∷ writes_text names ws ∷ [])
    (named-is_line names w.obj h, (decimal-is_line w.ver, ((All-head OneLineWrite w ws g).text, writes-is_line names ws h (All-tail OneLineWrite w ws g))))

want-is_line : (w : Want) → is_line (want_text w) ≡ true
unfolding lacks want_text
want-is_line Own = refl
want-is_line Read = refl
want-is_line Leave = refl

place-is_line : (p : Place) → is_line (place_text p) ≡ true
unfolding lacks
place-is_line p = lacks-append 10 (number p.owner) (word (nodes_text p.replicas)) (decimal-is_line p.owner) (nodes-is_line p.replicas)

proposal-is_line : (p : Proposal) → is_line (proposal_text p) ≡ true
unfolding lacks
proposal-is_line p =
    is_line-together (word (stamp_text p.stamp)) (number p.requester ∷ word (stamp_text p.base) ∷ place_text p.base_place ∷ [])
    (stamp-is_line p.stamp, (decimal-is_line p.requester, (stamp-is_line p.base, place-is_line p.base_place)))

content-is_line : (c : Option Content) → OneLineContent c → is_line (content_text c) ≡ true
unfolding lacks content_text OneLineContent
content-is_line None h = refl
content-is_line (Some c) h = lacks-append 10 (number c.ver) (word (value_text c.value)) (decimal-is_line c.ver) h.text

-- if names and the texts of a letter stay within a line, then the printed letter does
pub body-is_line : (names : List (List ℕ)) (b : Body) → All OneLineName names → OneLineBody b → is_line (body_text names b) ≡ true
unfolding lacks body_text OneLineBody
body-is_line names (RInv r) h g =
    is_line-together (codes "rinv") (word (stream_text r.stream) ∷ number r.number ∷ number r.done ∷ word (nodes_text r.followers) ∷ writes_text names r.writes ∷ [])
    (refl, (stream-is_line r.stream, (decimal-is_line r.number, (decimal-is_line r.done, (nodes-is_line r.followers, writes-is_line names r.writes h g)))))
body-is_line names (RAck s n) h g = is_line-together (codes "rack") (word (stream_text s) ∷ number n ∷ []) (refl, (stream-is_line s, decimal-is_line n))
body-is_line names (RVal s done) h g = is_line-together (codes "rval") (word (stream_text s) ∷ number done ∷ []) (refl, (stream-is_line s, decimal-is_line done))
body-is_line names (OReq x want) h g = is_line-together (codes "oreq") (named_object names x ∷ want_text want ∷ []) (refl, (named-is_line names x h, want-is_line want))
body-is_line names (OInv x p) h g =
    is_line-together (codes "oinv") (named_object names x ∷ proposal_text p ∷ want_text p.want ∷ []) (refl, (named-is_line names x h, (proposal-is_line p, want-is_line p.want)))
body-is_line names (OAck x p content) h g =
    is_line-together (codes "oack") (named_object names x ∷ proposal_text p ∷ content_text content ∷ want_text p.want ∷ [])
    (refl, (named-is_line names x h, (proposal-is_line p, (content-is_line content g, want-is_line p.want))))
body-is_line names (ONack x stamp cause) h g =
    is_line-together (codes "onack") (named_object names x ∷ word (stamp_text stamp) ∷ word (cause_text cause) ∷ []) (refl, (named-is_line names x h, (stamp-is_line stamp, cause-is_line cause)))
body-is_line names (OVal x stamp place) h g =
    is_line-together (codes "oval") (named_object names x ∷ word (stamp_text stamp) ∷ place_text place ∷ []) (refl, (named-is_line names x h, (stamp-is_line stamp, place-is_line place)))
body-is_line names Recovered h g = refl

-- ---- steps and states

spaced-is_line : (ns : List ℕ) → is_line (spaced (map decimal ns)) ≡ true
unfolding lacks spaced
spaced-is_line [] = refl
spaced-is_line (n ∷ ns) = lacks-append 10 (word (decimal n)) (spaced (map decimal ns)) (decimal-is_line n) (spaced-is_line ns)

-- a keyword and numbers
keyword-is_line : (w : List ℕ) (ns : List ℕ) → is_line w ≡ true → is_line (words_text (w ∷ map decimal ns)) ≡ true
unfolding words_text
keyword-is_line w ns h = lacks-append 10 w (spaced (map decimal ns)) h (spaced-is_line ns)

-- a printed step stays within a line
pub step-is_line : (s : Step) → is_line (words_text (step_words s)) ≡ true
unfolding step_words lacks
step-is_line (Begin k) = keyword-is_line (codes "begin") (k ∷ []) refl
step-is_line (Try n s) = keyword-is_line (codes "try") (n ∷ s ∷ []) refl
step-is_line (Deliver sender receiver i) = keyword-is_line (codes "deliver") (sender ∷ receiver ∷ i ∷ []) refl
step-is_line (Tick n) = keyword-is_line (codes "tick") (n ∷ []) refl
step-is_line (Stop n) = keyword-is_line (codes "stop") (n ∷ []) refl
step-is_line (View nodes) = keyword-is_line (codes "view") nodes refl
step-is_line (Install n e) = keyword-is_line (codes "install") (n ∷ e ∷ []) refl

-- a printed state of a transaction stays within a line
pub tx_state-is_line : (s : TxState) → is_line (tx_state_text s) ≡ true
unfolding lacks tx_state_text
tx_state-is_line New = refl
tx_state-is_line Current = refl
tx_state-is_line Pending = refl
tx_state-is_line Passed = refl
tx_state-is_line Acked = refl
tx_state-is_line TxRefused = refl

-- printed points stay within a line
pub points-is_line : (ps : List Point) → is_line (points_text ps) ≡ true
unfolding lacks points_text
points-is_line [] = refl
points-is_line (p ∷ ps) = lacks-append 10 (number p.id) (points_text ps) (decimal-is_line p.id) (points-is_line ps)
