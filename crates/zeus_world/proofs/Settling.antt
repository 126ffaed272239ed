-- What is written down when a node has acted, by the words of the machine.
use Rattle.std.proofs.Common.{ℕ, zero, suc, ◌≡◌, ◌<◌, ◌≤◌, ◌+◌, ◌^◌, ◌++◌, List, [], ◌∷◌, Option, Some, None, length, take, refl, sym, ap, ◌∙◌, subst, arith, append-nil}
use Rattle.std.specs.List.{All}
use Rattle.zeus_base.specs.Limits.{KeepsLimits, limits_of}
use Rattle.zeus_base.specs.declared.config.Config.{Config}
use Rattle.zeus_base.specs.declared.config.Limits.{Limits}
use Rattle.std.proofs.Math.ListN.{set}
use Rattle.zeus_base.specs.TableLaws.{put-set}
use Rattle.zeus_base.specs.declared.step.Passed.{Passed}
use Rattle.zeus_base.specs.declared.step.Step.{Step}
use Rattle.zeus_packet.specs.declared.letter.Letter.{Letter}
use Rattle.zeus_packet.specs.declared.letter.Packet.{Packet}
use Rattle.zeus_model.specs.Act.{Did}
use Rattle.zeus_model.specs.Book.{Book, BookChange, book_passes, change_then, counted, in_stream_order}
use Rattle.zeus_model.specs.State.{Node}
use Rattle.zeus_model.specs.Tables.{nth, put}
use Rattle.zeus_model.specs.World.{World, Event, acted, all_posted, happens, no_node, node, packets, refuse_step}
use Rattle.zeus_model.specs.declared.answer.Answer.{Answer}
use Rattle.node_ranges.specs.Ranges.{AllFit}
use Rattle.node_ranges.specs.Places.{AllFit-take}
use Rattle.history_book.specs.Books.{BookState, HasLists, has_no_ack, has_no_point, how_many, so_far, with_book}
use Rattle.history_book.specs.Ids.{IdsState}
use Rattle.history_book.proofs.Counts.{how_many-most}
use Rattle.reached_worlds.specs.Ranged.{IsRanged}
use Rattle.reached_worlds.proofs.Passes.{book_passes-sized}
use Rattle.reached_worlds.proofs.Ranging.{fits_ends, first_fits, rest_fits}
use Rattle.reached_worlds.proofs.Signed.{AreBy, by_take}
use Rattle.lossy_fabric.proofs.Largest.{fits_largest}
use Rattle.zeus_wire.specs.Ranges.{AreLimits}
use Rattle.lossy_fabric.specs.Links.{LinkState, HasRoom, IsLink, letters}
use Rattle.zeus_world.specs.Posting.{AreFrom, CanPost}
use Rattle.zeus_world.specs.Reports.{Tells}
use Rattle.zeus_world.specs.Settling.{CanSettle, IsSettled}
use Rattle.zeus_world.specs.Taken.{IsAlone, IsTaken}
use Rattle.zeus_world.specs.declared.event.StepEvent.{StepEvent}
use Rattle.zeus_world.proofs.Batches.{length-letters, length-row}

-- ---- the passes and the count

-- what a change equation says of the book and of the lists
pub record IsMade (c : BookChange) (b : BookState) (ps qs : IdsState) : Type 0 where
  pub book : b.book ≡ c.book
  pub points : ps.ids ≡ c.points
  pub acks : qs.ids ≡ c.acked

-- if a call leaves the lists of a change equation, then the book and the lists are those of the change
pub made : (c : BookChange) (b : BookState) (points acked : IdsState) → so_far b points acked ≡ c → IsMade c b points acked
made c b points acked e = record {
  book = ap (λ (d : BookChange). d.book) e;
  points = ap (λ (d : BookChange). d.points) e;
  acks = ap (λ (d : BookChange). d.acked) e;
}

-- passes leave the count of steps
pub passes_counted : (b c : BookState) (me : ℕ) (ps : List Passed) (before : BookChange) (points acked : IdsState) → before.book ≡ b.book → so_far c points acked ≡ change_then before (λ d. book_passes d me ps)
    → b.book.steps + 1 < 2 ^ 64 → c.book.steps + 1 < 2 ^ 64
passes_counted b c me ps before points acked e f h =
    let m = made (change_then before (λ d. book_passes d me ps)) c points acked f in
    let sized = book_passes-sized before.book me ps in
    let same : c.book.steps ≡ b.book.steps = ap (λ (d : Book). d.steps) m.book ∙ sized.steps ∙ ap (λ (d : Book). d.steps) e in
    rw same h

-- ---- letters that can be posted

-- the limits of a configuration are within the largest
are_limits : (c : Config) → KeepsLimits c → AreLimits (limits_of c)
are_limits c keeps = record { version = keeps.version; nodes = keeps.nodes.1; slots = keeps.slots.1; objects = keeps.objects.1 }

are_from : (n nodes : ℕ) (limits : Limits) (ls : List Letter) → AreLimits limits → nodes ≡ limits.nodes → AreBy n ls → AllFit limits ls → AreFrom n nodes ls
unfolding AreBy AreFrom
are_from n nodes limits [] are e by fit = tt
are_from n nodes limits (l ∷ ls) are e by fit =
    let first = first_fits limits l ls fit in
    ((by.0, rw e (fits_ends limits l first).to, fits_largest limits l are first), are_from n nodes limits ls are e by.1 (rest_fits limits l ls fit))

length-take-most : {A : Type 0} (n : ℕ) (xs : List A) → length (take n xs) ≤ n
length-take-most zero xs = omega arith
length-take-most (suc n) [] = omega arith
length-take-most (suc n) (x ∷ xs) = let h = length-take-most n xs in omega arith

room_most : (L : List LinkState) (count most : ℕ) → count ≤ most → HasRoom most L → HasRoom count L
unfolding HasRoom
room_most L count most h r to k = let m = r to k in omega arith

-- the node of this number can send the first 64 of the letters: it is of the ranged world w, whose links these are, the
-- letters are its own and fit, and each of its links has room for 64
pub record CanSend (w : World) (n : ℕ) (all : List Letter) (L : List (List LinkState)) : Type 0 where
  pub ranged : IsRanged w
  pub there : n < w.config.nodes
  pub links : letters L ≡ w.links
  pub by : AreBy n all
  pub fit : AllFit (limits_of w.config) all
  pub room : HasRoom 64 (nth [] L n)

-- if a node can send the letters of its act, then those that it said can be posted
pub can_post : (w : World) (n : ℕ) (all said : List Letter) (L : List (List LinkState)) → said ≡ take 64 all → CanSend w n all L → CanPost L said
can_post w n all said L is can =
    let size : length L ≡ w.config.nodes = sym (length-letters L) ∙ ap length can.links ∙ can.ranged.senders in
    let row : length (nth [] L n) ≡ w.config.nodes = length-row L n ∙ ap (λ (x : List (List (List Letter))). length (nth [] x n)) can.links ∙ can.ranged.receivers n can.there in
    rw is (record {
      sender = n;
      there = rw size can.there;
      receivers = are_from n (length (nth [] L n)) (limits_of w.config) (take 64 all) (are_limits w.config can.ranged.limits) row (by_take n 64 all can.by) (AllFit-take (limits_of w.config) 64 all can.fit);
      room = room_most (nth [] L n) (length (take 64 all)) 64 (length-take-most 64 all) can.room;
    })

-- a link's sender is there
pub sender_there : (w : World) (n : ℕ) (L : List (List LinkState)) → IsRanged w → n < w.config.nodes → letters L ≡ w.links → n < length L
sender_there w n L r h e = let size : length L ≡ w.config.nodes = sym (length-letters L) ∙ ap length e ∙ r.senders in rw size h

-- at most 64 letters are said
pub few_letters : (said all : List Letter) → said ≡ take 64 all → length said ≤ 64
few_letters said all e = rw e (length-take-most 64 all)

-- ---- the lists of an event

-- if both lists have room for as many ids as there are records, then the book's lists have theirs
pub has_lists : (b : Book) (count : ℕ) (points acked : IdsState) → count ≡ length b.records → count ≤ points.room → count ≤ acked.room → HasLists b points acked
has_lists b count points acked e p a =
    let one = how_many-most has_no_point b.records in
    let two = how_many-most has_no_ack b.records in
    record { pointed = omega arith; acks = omega arith }

-- ---- the world after it

-- the world with other nodes, links and book
abbrev pub world_with : World → List Node → List (List (List Letter)) → Book → World
world_with w nodes links book = record { config = w.config; txs = w.txs; nodes = nodes; links = links; views = w.views; book = book }

-- a node answers, becomes, sends the 64 letters at most, and passes what the rules say
pub record HasActed {A : Type 0} (d : Did A) (answer : A) (after : Node) (said : List Letter) (passed : List Passed) : Type 0 where
  pub says : answer ≡ d.answer
  pub becomes : after ≡ d.node
  pub sends : said ≡ take 64 d.sent
  pub passes : passed ≡ d.passed

-- the node of this number in the world w did d, and its act was settled: its answer, the node after it, what it said and passed,
-- and the book, the links and the event before and after; the book has what is noted of the answer, and the event tells it
pub record SettledAct {A : Type 0} (w : World) (n : ℕ) (d : Did A) (wrap : A → Answer) (note : A → BookChange) : Type 0 where
  pub answer : A
  pub after : Node
  pub said : List Letter
  pub passed : List Passed
  pub book : BookState
  pub book_after : BookState
  pub links : List (List LinkState)
  pub links_after : List (List LinkState)
  pub event : StepEvent
  pub event_after : StepEvent
  pub settled : IsSettled n said passed book book_after links links_after event event_after
  pub did : HasActed d answer after said passed
  pub noted : IsMade (note answer) book event.points event.acked
  pub linked : letters links ≡ w.links
  pub says : event.answer ≡ wrap answer

-- what a node answered, said and passed is what happens, where the rules say so
acted_as : {A : Type 0} (w : World) (n : ℕ) (d : Did A) (wrap : A → Answer) (note : A → BookChange) (answer : A) (after : Node) (said : List Letter) (passed : List Passed) → HasActed d answer after said passed
    → acted w n after (wrap answer) said (change_then (note answer) (λ b. book_passes b n (in_stream_order passed)))
    ≡ acted w n d.node (wrap d.answer) (take 64 d.sent) (change_then (note d.answer) (λ b. book_passes b n (in_stream_order d.passed)))
acted_as w n d wrap note answer after said passed has = rw (has.says, has.becomes, has.sends, has.passes) refl

-- if a node's act was settled, then what is told is what happened, and the world is the one after it
pub settled_taken : {A : Type 0} (w : World) (n : ℕ) (d : Did A) (wrap : A → Answer) (note : A → BookChange) → n < length w.nodes → (act : SettledAct w n d wrap note)
    → IsTaken act.event_after (world_with w (set w.nodes n act.after) (letters act.links_after) act.book_after.book)
    (acted w n d.node (wrap d.answer) (take 64 d.sent) (change_then (note d.answer) (λ b. book_passes b n (in_stream_order d.passed))))
settled_taken w n d wrap note there act =
    let c : BookChange = note act.answer in
    let change : BookChange = change_then c (λ b. book_passes b n (in_stream_order act.passed)) in
    let passes : BookChange = book_passes c.book n (in_stream_order act.passed) in
    let same : book_passes act.book.book n (in_stream_order act.passed) ≡ passes = ap (λ (b : Book). book_passes b n (in_stream_order act.passed)) act.noted.book in
    let book : act.book_after.book ≡ counted change.book = ap (λ (b : BookState). b.book) act.settled.book ∙ ap (λ (b : BookChange). counted b.book) same in
    let links : letters act.links_after ≡ all_posted w.links act.said = act.settled.links ∙ ap (λ (x : List (List (List Letter))). all_posted x act.said) act.linked in
    let nodes : set w.nodes n act.after ≡ put no_node w.nodes n act.after = sym (put-set no_node w.nodes n act.after there) in
    let taken : IsTaken act.event_after (world_with w (set w.nodes n act.after) (letters act.links_after) act.book_after.book) (acted w n act.after (wrap act.answer) act.said change) =
    record {
      tells = record {
        answer = act.settled.answer ∙ act.says;
        points = act.settled.points ∙ ap (λ (xs : List ℕ). xs ++ (book_passes act.book.book n (in_stream_order act.passed)).points) act.noted.points ∙ ap (λ (b : BookChange). c.points ++ b.points) same;
        acked = act.settled.acked ∙ ap (λ (xs : List ℕ). xs ++ (book_passes act.book.book n (in_stream_order act.passed)).acked) act.noted.acks ∙ ap (λ (b : BookChange). c.acked ++ b.acked) same;
        sent = act.settled.sent ∙ ap (λ (x : List (List (List Letter))). packets x act.said) act.linked;
      };
      becomes =
          ap (λ (ns : List Node). world_with w ns (letters act.links_after) act.book_after.book) nodes
          ∙ ap (λ (x : List (List (List Letter))). world_with w (put no_node w.nodes n act.after) x act.book_after.book) links
          ∙ ap (λ (b : Book). world_with w (put no_node w.nodes n act.after) (all_posted w.links act.said) b) book;
    } in
    let Taken : Event → Type 0 = λ e. IsTaken act.event_after (world_with w (set w.nodes n act.after) (letters act.links_after) act.book_after.book) e in
    subst Taken (acted_as w n d wrap note act.answer act.after act.said act.passed act.did) taken

-- a step that the world answers alone
pub alone_taken : (w v : World) (a : Answer) (r : StepEvent) (e : Event) → e ≡ refuse_step w a → v ≡ record w { book = counted w.book } → IsAlone a r → IsTaken r v e
alone_taken w v a r e is f alone =
    rw is (record { tells = record { answer = alone.says; points = alone.points; acked = alone.acked; sent = alone.sent }; becomes = f })

-- an answer of the world w that is all a step tells: the links stay, and the book is b with the step counted
pub record LoneAnswer (w : World) (a : Answer) (b : Book) : Type 0 where
  pub links : List (List (List Letter))
  pub book : Book
  pub event : StepEvent
  pub linked : links ≡ w.links
  pub counts : book ≡ counted b
  pub alone : IsAlone a event

-- a node has acted, and nothing was sent and nothing has passed
pub quiet_taken : (w : World) (n : ℕ) (after : Node) (a : Answer) (c : BookChange) → n < length w.nodes → c.points ≡ [] → c.acked ≡ [] → (told : LoneAnswer w a c.book)
    → IsTaken told.event (world_with w (set w.nodes n after) told.links told.book) (acted w n after a [] c)
unfolding all_posted packets
quiet_taken w n after a c there p q told =
    let nodes : set w.nodes n after ≡ put no_node w.nodes n after = sym (put-set no_node w.nodes n after there) in
    record {
      tells = record { answer = told.alone.says; points = told.alone.points ∙ sym p; acked = told.alone.acked ∙ sym q; sent = told.alone.sent };
      becomes =
          ap (λ (ns : List Node). world_with w ns told.links told.book) nodes
          ∙ ap (λ (x : List (List (List Letter))). world_with w (put no_node w.nodes n after) x told.book) told.linked
          ∙ ap (λ (b : Book). world_with w (put no_node w.nodes n after) w.links b) told.counts;
    }

-- ---- links that are there, and a world that only counts

-- if two nodes are of the configuration, then the link between them is there
pub link_there : (w : World) (from to : ℕ) (L : List (List LinkState)) → IsRanged w → from < w.config.nodes → to < w.config.nodes → letters L ≡ w.links → IsLink L from to
link_there w from to L r h k e =
    let size : length L ≡ w.config.nodes = sym (length-letters L) ∙ ap length e ∙ r.senders in
    let row : length (nth [] L from) ≡ w.config.nodes = length-row L from ∙ ap (λ (x : List (List (List Letter))). length (nth [] x from)) e ∙ r.receivers from h in
    record { from = rw size h; to = rw row k }

-- if a step is refused and its answer alone is told, then what is told is what happens
pub alone_as : (w : World) (a : Answer) (e : Event) → e ≡ refuse_step w a → (told : LoneAnswer w a w.book) → IsTaken told.event (world_with w w.nodes told.links told.book) e
alone_as w a e is told =
    alone_taken w (world_with w w.nodes told.links told.book) a told.event e is
    (ap (λ (x : List (List (List Letter))). world_with w w.nodes x told.book) told.linked ∙ ap (λ (b : Book). world_with w w.nodes w.links b) told.counts) told.alone

-- what a change says of the book and of lists that were empty
pub made_first : (b b1 : BookState) (p q p1 q1 : IdsState) (f : Book → BookChange) → p.ids ≡ [] → q.ids ≡ [] → so_far b1 p1 q1 ≡ change_then (so_far b p q) f → IsMade (f b.book) b1 p1 q1
made_first b b1 p q p1 q1 f e g h =
    let m = made (change_then (so_far b p q) f) b1 p1 q1 h in
    record {
      book = m.book;
      points = m.points ∙ ap (λ (xs : List ℕ). xs ++ (f b.book).points) e;
      acks = m.acks ∙ ap (λ (xs : List ℕ). xs ++ (f b.book).acked) g;
    }
