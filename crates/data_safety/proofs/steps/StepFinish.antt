-- The finish of a node as moves of a run: the passes in the order of the book, then what is said of them, then the report.
use Rattle.std.specs.Prelude.{ℕ, ◌≡◌, ◌-◌, ◌&&◌, not, List, [], ◌∷◌, ◌++◌, length, take}
use Rattle.std.proofs.Common.{refl, sym, ap, ◌∙◌, subst, append_assoc, append-nil}
use Rattle.std.proofs.lemmas.Bool.{cond_both}
use Rattle.zeus_base.specs.Nodes.{has}
use Rattle.zeus_base.specs.declared.order.Stream.{Stream}
use Rattle.zeus_base.specs.declared.step.Passed.{Passed}
use Rattle.zeus_model.specs.In.{In, here, there}
use Rattle.zeus_model.specs.State.{Node}
use Rattle.zeus_model.specs.Act.{Act, still}
use Rattle.zeus_model.specs.Book.{Book, book_passes, in_stream_order}
use Rattle.zeus_model.specs.Commit.{none_stored, outside, report_recovered, finish}
use Rattle.machine_moves.proofs.Lists.{In-nothing, take-append}
use Rattle.machine_moves.proofs.Reach.{PlainReached, IsReady, known}
use Rattle.machine_moves.proofs.Passing.{self_member}
use Rattle.machine_moves.proofs.Finish.{report-reached}
use Rattle.data_safety.specs.RunState.{RunState}
use Rattle.data_safety.proofs.steps.StepReach.{told_as, Arrives, plain_arrives, then_arrives, tells_arrives}
use Rattle.data_safety.proofs.passes.OrderAdvance.{all_advanced}
use Rattle.data_safety.proofs.passes.OrderSorted.{Apart, sorted-In, sorted-Apart, sorted-advanced}
use Rattle.data_safety.proofs.passes.OrderTurns.{IsDue, IsWord-tellable, StreamAdvance, no_pass, one_pass, IsTurn, IsRound}
use Rattle.data_safety.proofs.passes.OrderFinish.{IsAny, finish_passes, own_passes, kept_passes, finish_round}
use Rattle.data_safety.proofs.steps.StepPasses.{passes_arrive}

-- what a round of streams does, by moves
pub round_arrives : (Among : Stream → Type 0) (y : RunState) (n k : ℕ) (a : Act) → IsReady y.system n → IsRound (y.system.node n) a Among → Arrives y n a.node (take k a.sent) (book_passes y.book n (in_stream_order a.passed)).book
round_arrives Among y n k a ready r =
    let m = y.system.node n in
    let sorted = in_stream_order a.passed in
    let book : Book = (book_passes y.book n sorted).book in
    let at : all_advanced m sorted ≡ a.node = sorted-advanced m a.passed r.apart ∙ sym r.node in
    let passes : Arrives y n a.node [] book = rw at at (passes_arrive sorted y n ready (sorted-Apart a.passed r.apart) (λ p i. r.due p (sorted-In p a.passed i))) in
    then_arrives y n a.node a.node [] (take k a.sent) book book ready passes
    (λ t rt b. tells_arrives (told_as y t book) n k a.node a.sent rt.live b.node (λ l i. IsWord-tellable a.node l (r.said l i)))

-- one stream alone is a round
pub turn_round : (m : Node) (a : Act) (t : Stream) → IsTurn m a t → IsRound m a IsAny
unfolding all_advanced Apart
turn_round m a t turn = by_advance turn.advance
  where
    only : (p q : Passed) → IsDue m p → In q (p ∷ []) → IsDue m q
    only p q due (here _ _ e) = rw e due
    only p q due (there _ _ i) = In-nothing q i

    by_advance : StreamAdvance m a t → IsRound m a IsAny
    by_advance (no_pass none same) =
        record {
          node = rw (none) same;
          due = rw (none) (λ p i. In-nothing p i);
          among = λ p i. tt;
          apart = rw (none) tt;
          grown = turn.grown;
          keeps = turn.keeps;
          said = turn.said;
        }
    by_advance (one_pass p some stream due is) =
        record {
          node = rw (some) is;
          due = rw (some) (λ q i. only p q due i);
          among = λ q i. tt;
          apart = rw (some) ((λ q i. In-nothing q i), tt);
          grown = turn.grown;
          keeps = turn.keeps;
          said = turn.said;
        }

report-passed : (m : Node) → (report_recovered m).passed ≡ []
unfolding report_recovered
report-passed m = cond_both (not (has m.me m.reported) && none_stored m (outside m)) _ (still m) (λ (a : Act). a.passed ≡ []) (λ _. refl) (λ _. refl)

-- the finish is its passes and then its report
finish-node : (m : Node) → (finish m).node ≡ (report_recovered (finish_passes m).node).node
unfolding finish
finish-node m = refl

finish-sent : (m : Node) → (finish m).sent ≡ (finish_passes m).sent ++ (report_recovered (finish_passes m).node).sent
unfolding finish
finish-sent m = rw (append_assoc) refl

finish-passed : (m : Node) → (finish m).passed ≡ (finish_passes m).passed
unfolding finish
finish-passed m =
    ap (λ (ps : List Passed). (own_passes m).passed ++ ((kept_passes (own_passes m).node).passed ++ ps)) (report-passed (finish_passes m).node)
    ∙ ap (λ (ps : List Passed). (own_passes m).passed ++ ps) (append-nil (kept_passes (own_passes m).node).passed)

-- a ready node's finish is moves of the run that leave the book with its passes, in the order of streams
pub finish_arrives : (y : RunState) (n k : ℕ) → IsReady y.system n → Arrives y n (finish (y.system.node n)).node (take k (finish (y.system.node n)).sent) (book_passes y.book n (in_stream_order (finish (y.system.node n)).passed)).book
finish_arrives y n k ready =
    let m = y.system.node n in
    let me = known y.system n ready in
    let f : Act = finish_passes m in
    let r : Act = report_recovered f.node in
    let book : Book = (book_passes y.book n (in_stream_order f.passed)).book in
    let round = finish_round m (rw (me.me) (self_member y.system n ready)) in
    rw (finish-node m, finish-sent m, finish-passed m, take-append k f.sent r.sent)
    (then_arrives y n f.node r.node (take k f.sent) (take (k - length f.sent) r.sent) book book ready (round_arrives IsAny y n k f ready round)
    (λ t rt b. plain_arrives (told_as y t book) n r.node (take (k - length f.sent) r.sent) (subst (λ (x : Node). PlainReached t n (k - length f.sent) (report_recovered x)) b.node (report-reached t n (k - length f.sent) rt))))
