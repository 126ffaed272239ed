-- From one system to another by moves of one node, which ends as a certain node and has sent certain letters.
use Rattle.std.specs.Prelude.{ℕ, ◌≡◌, ◌≢◌, ◌-◌, Bool, true, false, ◌==◌, List, [], ◌++◌, length, take, ◌⊎◌, if◌then◌else◌}
use Rattle.std.proofs.Common.{refl, sym, ◌∙◌, inl, inr, eq-eqb, subst}
use Rattle.std.proofs.lemmas.Bool.{cases_eq, ne_eqb}
use Rattle.zeus_packet.specs.declared.letter.Letter.{Letter}
use Rattle.zeus_model.specs.In.{In}
use Rattle.zeus_model.specs.State.{Node}
use Rattle.zeus_model.specs.Act.{Act, Did, joined, did_joined}
use Rattle.zeus_model.specs.InLaws.{In-append_left, In-append_right, In-append}
use Rattle.machine_moves.specs.SystemState.{SystemState, IsLive, Changes, Same, nothing}
use Rattle.machine_moves.specs.Move.{Move, Moves, none, next, IsTellable, tells}
use Rattle.machine_moves.specs.Plain.{IsPlain, PlainMoves, stays, moves_on}
use Rattle.machine_moves.proofs.Lists.{In-nothing, In-take, take-append, take-none}
use Rattle.machine_moves.proofs.Within.{Keeps, Keeps-refl, Keeps-trans}
use Rattle.machine_moves.proofs.Steady.{IsSteady, IsKnown, moves_keep}

-- the node has become another, and just these letters were sent
pub record Became (s t : SystemState) (n : ℕ) (after : Node) (sent : List Letter) : Type 0 where
  pub config : t.config ≡ s.config
  pub views : t.views ≡ s.views
  pub node : t.node n ≡ after
  pub others : (k : ℕ) → k ≢ n → t.node k ≡ s.node k
  pub stay : (l : Letter) → In l s.letters → In l t.letters
  pub new : (l : Letter) → In l sent → In l t.letters
  pub only : (l : Letter) → In l t.letters → In l s.letters ⊎ In l sent

-- the system with another node, and with more letters
unfoldable pub changed : SystemState → ℕ → Node → List Letter → SystemState
changed s n after sent =
    record { config = s.config; views = s.views; node = λ k. if k == n then after else s.node k; letters = s.letters ++ sent }

-- the system made with another node and more letters is one where the node became this and sent these
pub Became-changed : (s : SystemState) (n : ℕ) (after : Node) (sent : List Letter) → Became s (changed s n after sent) n after sent
unfolding changed
Became-changed s n after sent =
    record {
      config = refl;
      views = refl;
      node = rw (eq-eqb n n refl) refl;
      others = λ k ne. rw (ne_eqb k n ne) refl;
      stay = λ l m. In-append_left l s.letters sent m;
      new = λ l m. In-append_right l s.letters sent m;
      only = λ l m. In-append l s.letters sent m;
    }

-- a node that did nothing became what it was, and sent nothing
pub Became-refl : (s : SystemState) (n : ℕ) → Became s s n (s.node n) []
Became-refl s n =
    record { config = refl; views = refl; node = refl; others = λ k ne. refl; stay = λ l m. m; new = λ l m. In-nothing l m; only = λ l m. inl m }

-- if a node became another and then a third, then it became the third and sent the letters of both
pub Became-trans : (s t u : SystemState) (n : ℕ) (m after : Node) (a b : List Letter) → Became s t n m a → Became t u n after b → Became s u n after (a ++ b)
Became-trans s t u n m after a b p q =
    record {
      config = q.config ∙ p.config;
      views = q.views ∙ p.views;
      node = q.node;
      others = λ k ne. q.others k ne ∙ p.others k ne;
      stay = λ l i. q.stay l (p.stay l i);
      new = λ l i. elim (In-append l a b i) [ inl left ↦ q.stay l (p.new l left) | inr right ↦ q.new l right ];
      only = λ l i. elim (q.only l i) [
        | inl older ↦ elim (p.only l older) [ inl oldest ↦ inl oldest | inr left ↦ inr (In-append_left l a b left) ]
        | inr right ↦ inr (In-append_right l a b right)
      ];
    }

-- two systems that a node became alike are the same
pub Same-became : (s t u : SystemState) (n : ℕ) (after : Node) (sent : List Letter) → Became s t n after sent → Became s u n after sent → Same t u
Same-became s t u n after sent p q =
    record {
      config = q.config ∙ sym p.config;
      views = q.views ∙ sym p.views;
      nodes = λ k. elim (cases_eq k n) [
        | inl same ↦ rw same (q.node ∙ sym p.node)
        | inr other ↦ q.others k other ∙ sym (p.others k other)
      ];
      sends = record {
        stay = λ l i. elim (p.only l i) [ inl older ↦ q.stay l older | inr newer ↦ q.new l newer ];
        only = λ l i. elim (q.only l i) [ inl older ↦ inl (p.stay l older) | inr newer ↦ inl (p.new l newer) ];
      };
    }

-- what became of a node is a change where it is allowed
pub Changes-became : (s t : SystemState) (n : ℕ) (after : Node) (sent : List Letter) (allowed : Letter → Type 0) → IsLive s n → Became s t n after sent → ((l : Letter) → In l sent → allowed l) → Changes s t n after allowed
Changes-became s t n after sent allowed live b fair =
    record {
      live = live;
      config = b.config;
      views = b.views;
      node = b.node;
      others = b.others;
      sends = record {
        stay = b.stay;
        only = λ l i. elim (b.only l i) [ inl older ↦ inl older | inr newer ↦ inr (fair l newer) ];
      };
    }

-- ---- by moves

PlainMoves-append : (s t u : SystemState) → PlainMoves s t → PlainMoves t u → PlainMoves s u
PlainMoves-append s t u (stays _) ms = ms
PlainMoves-append s t u (moves_on _ mid _ move is rest) ms = moves_on s mid u move is (PlainMoves-append mid t u rest ms)

-- moves lead from one system to another, and where it is asked, plain ones
pub record LeadsBy (plain : Bool) (s t : SystemState) : Type 0 where
  pub on : (u : SystemState) → Moves t u → Moves s u
  pub plainly : plain ≡ true → PlainMoves s t

-- moves lead from one system to another
abbrev pub Leads : SystemState → SystemState → Type 0
Leads = LeadsBy false

-- moves of the node, which keeps what it is, lead to a system where it has become another and has sent these letters
pub record ReachesBy (plain : Bool) (s : SystemState) (n : ℕ) (after : Node) (sent : List Letter) : Type 0 where
  pub system : SystemState
  pub became : Became s system n after sent
  pub leads : LeadsBy plain s system
  pub keeps : Keeps (s.node n) after

-- moves of the node lead to where it has become another and has sent these letters
abbrev pub Reaches : SystemState → ℕ → Node → List Letter → Type 0
Reaches = ReachesBy false

-- by plain moves
abbrev pub PlainReaches : SystemState → ℕ → Node → List Letter → Type 0
PlainReaches = ReachesBy true

-- where a node acts: all is as it is at every moment, and the node is live
pub record IsReady (s : SystemState) (n : ℕ) : Type 0 where
  pub steady : IsSteady s
  pub live : IsLive s n

-- a ready node knows its number, the configuration and the views
pub known : (s : SystemState) (n : ℕ) → IsReady s n → IsKnown s.config s.views n (s.node n)
known s n r = let h = r.steady in h.nodes n r.live

-- a system is the same as itself
pub Same-refl : (s : SystemState) → Same s s
Same-refl s =
    record { config = refl; views = refl; nodes = λ k. refl; sends = record { stay = λ l i. i; only = λ l i. inl i } }

-- if moves lead from one system to another, then there is a sequence of moves between them
pub Moves-leads : {p : Bool} (s t : SystemState) → LeadsBy p s t → Moves s t
Moves-leads s t l = l.on t (none t t (Same-refl t))

-- moves lead to each system that is as the one that was reached
pub Moves-reaches : (s t : SystemState) (n : ℕ) (after : Node) (sent : List Letter) → Reaches s n after sent → Became s t n after sent → Moves s t
Moves-reaches s t n after sent r b =
    let l = r.leads in
    l.on t (none r.system t (Same-became s r.system t n after sent r.became b))

-- after moves of a node that keeps what it is, it is ready again
pub ready_after : {p : Bool} (s t : SystemState) (n : ℕ) (after : Node) (sent : List Letter) → IsReady s n → Became s t n after sent → LeadsBy p s t → Keeps (s.node n) after → IsReady t n
ready_after s t n after sent r b l k =
    record { steady = moves_keep s t (Moves-leads s t l) r.steady; live = rw (b.node) (k.stopped ∙ r.live) }

-- nothing is done
pub still_reaches : {p : Bool} (s : SystemState) (n : ℕ) → ReachesBy p s n (s.node n) []
still_reaches s n = record { system = s; became = Became-refl s n; leads = record { on = λ u ms. ms; plainly = λ _. stays s }; keeps = Keeps-refl (s.node n) }

-- one move
pub move_reaches : {p : Bool} (s : SystemState) (n : ℕ) (after : Node) (sent : List Letter) → Keeps (s.node n) after → (move : Move s (changed s n after sent)) → (p ≡ true → IsPlain s (changed s n after sent) move) → ReachesBy p s n after sent
move_reaches s n after sent k m is =
    record {
      system = changed s n after sent;
      became = Became-changed s n after sent;
      leads = record { on = λ u ms. next s (changed s n after sent) u m ms; plainly = λ asked. moves_on s (changed s n after sent) (changed s n after sent) m (is asked) (stays (changed s n after sent)) };
      keeps = k;
    }

-- a move that sends nothing
quiet_changes : (s : SystemState) (n : ℕ) (after : Node) → IsLive s n → Changes s (changed s n after []) n after nothing
quiet_changes s n after live =
    Changes-became s (changed s n after []) n after [] nothing live (Became-changed s n after []) (λ l i. In-nothing l i)

-- if a live node may change by one move that sends nothing, then moves reach it
pub quiet_reaches : (s : SystemState) (n : ℕ) (after : Node) → IsLive s n → Keeps (s.node n) after → (Changes s (changed s n after []) n after nothing → Move s (changed s n after [])) → Reaches s n after []
quiet_reaches s n after live k move = move_reaches s n after [] k (move (quiet_changes s n after live)) (λ asked. absurd cc)

-- if a live node may change by one plain move that sends nothing, then plain moves reach it
pub plain_reaches : (s : SystemState) (n : ℕ) (after : Node) → IsLive s n → Keeps (s.node n) after → (move : Changes s (changed s n after []) n after nothing → Move s (changed s n after [])) → ((ch : Changes s (changed s n after []) n after nothing) → IsPlain s (changed s n after []) (move ch)) → PlainReaches s n after []
plain_reaches s n after live k move is = move_reaches s n after [] k (move (quiet_changes s n after live)) (λ _. is (quiet_changes s n after live))

-- plain moves are moves
pub any_reaches : (s : SystemState) (n : ℕ) (after : Node) (sent : List Letter) → PlainReaches s n after sent → Reaches s n after sent
any_reaches s n after sent r =
    let l = r.leads in
    record { system = r.system; became = r.became; leads = record { on = l.on; plainly = λ asked. absurd cc }; keeps = r.keeps }

-- letters that the node may send without a change of its state
pub tells_reaches : {p : Bool} (s : SystemState) (n : ℕ) (sent : List Letter) → IsLive s n → ((l : Letter) → In l sent → IsTellable (s.node n) l) → ReachesBy p s n (s.node n) sent
unfolding IsPlain
tells_reaches s n sent live fair =
    move_reaches s n (s.node n) sent (Keeps-refl (s.node n))
    (tells n (Changes-became s (changed s n (s.node n) sent) n (s.node n) sent (IsTellable (s.node n)) live (Became-changed s n (s.node n) sent) fair)) (λ _. tt)

-- if moves reach one node, and from there moves reach a second, then moves reach the second, with the letters of both
pub then_reaches : {p : Bool} (s : SystemState) (n : ℕ) (m after : Node) (a b : List Letter) → IsReady s n → ReachesBy p s n m a → ((t : SystemState) → IsReady t n → Became s t n m a → ReachesBy p t n after b) → ReachesBy p s n after (a ++ b)
then_reaches s n m after a b ready r on =
    let second = on r.system (ready_after s r.system n m a ready r.became r.leads r.keeps) r.became in
    let first_leads = r.leads in
    let second_leads = second.leads in
    record {
      system = second.system;
      became = Became-trans s r.system second.system n m after a b r.became second.became;
      leads = record {
        on = λ u ms. first_leads.on u (second_leads.on u ms);
        plainly = λ asked. PlainMoves-append s r.system second.system (first_leads.plainly asked) (second_leads.plainly asked);
      };
      keeps = Keeps-trans (s.node n) m after r.keeps (let b = r.became in rw (b.node) at second.keeps);
    }

-- ---- what an act reaches, of whose letters at most so many are sent

-- moves, plain ones if asked for, reach an act's node, with at most k of its letters sent
abbrev pub ReachedBy : Bool → SystemState → ℕ → ℕ → Act → Type 0
ReachedBy p s n k a = ReachesBy p s n a.node (take k a.sent)

-- moves reach an act's node, with at most k of its letters sent
abbrev pub Reached : SystemState → ℕ → ℕ → Act → Type 0
Reached s n k a = Reaches s n a.node (take k a.sent)

-- plain moves reach an act's node, with at most k of its letters sent
abbrev pub PlainReached : SystemState → ℕ → ℕ → Act → Type 0
PlainReached s n k a = PlainReaches s n a.node (take k a.sent)

-- moves, plain ones if asked for, reach the node of an act that answers, with at most k of its letters sent
abbrev pub AnsweredBy : {A : Type 0} → Bool → SystemState → ℕ → ℕ → Did A → Type 0
AnsweredBy p s n k d = ReachesBy p s n d.node (take k d.sent)

-- moves reach the node of an act that answers, with at most k of its letters sent
abbrev pub Answered : {A : Type 0} → SystemState → ℕ → ℕ → Did A → Type 0
Answered s n k d = Reaches s n d.node (take k d.sent)

-- plain moves reach the node of an act that answers, with at most k of its letters sent
abbrev pub PlainAnswered : {A : Type 0} → SystemState → ℕ → ℕ → Did A → Type 0
PlainAnswered s n k d = PlainReaches s n d.node (take k d.sent)

-- if a node is reached without a letter, then also with at most k of none
pub cut_none : {p : Bool} (s : SystemState) (n : ℕ) (after : Node) (k : ℕ) → ReachesBy p s n after [] → ReachesBy p s n after (take k [])
cut_none s n after k r = rw (take-none {A = Letter} k) r

-- if a live node may send each of some letters without a change of its state, then moves send at most k of them
pub cut_tells : {p : Bool} (s : SystemState) (n k : ℕ) (sent : List Letter) → IsLive s n → ((l : Letter) → In l sent → IsTellable (s.node n) l) → ReachesBy p s n (s.node n) (take k sent)
cut_tells s n k sent live fair = tells_reaches s n (take k sent) live (λ l i. fair l (In-take l k sent i))

-- the second act begins where the first has ended
pub cut_then : {p : Bool} (s : SystemState) (n k : ℕ) (m after : Node) (a b : List Letter) → IsReady s n → ReachesBy p s n m (take k a) → ((t : SystemState) (j : ℕ) → IsReady t n → Became s t n m (take k a) → ReachesBy p t n after (take j b)) → ReachesBy p s n after (take k (a ++ b))
cut_then s n k m after a b ready r on =
    rw (take-append k a b) (then_reaches s n m after (take k a) (take (k - length a) b) ready r (λ t rt b. on t (k - length a) rt b))

-- a node's letters at a system where it is known what it has become
pub tells_at : {p : Bool} (t : SystemState) (n k : ℕ) (m : Node) (sent : List Letter) → IsLive t n → t.node n ≡ m → ((l : Letter) → In l sent → IsTellable m l) → ReachesBy p t n m (take k sent)
tells_at {p = p} t n k m sent live is fair =
    (subst (λ (x : Node). ((l : Letter) → In l sent → IsTellable x l) → ReachesBy p t n x (take k sent)) is (λ f. cut_tells t n k sent live f)) fair

-- quiet moves, and then letters
pub quiet_then_tells : {p : Bool} (s : SystemState) (n k : ℕ) (m : Node) (sent : List Letter) → IsReady s n → ReachesBy p s n m [] → ((l : Letter) → In l sent → IsTellable m l) → ReachesBy p s n m (take k sent)
quiet_then_tells s n k m sent ready r fair =
    then_reaches s n m m [] (take k sent) ready r (λ t rt b. tells_at t n k m sent rt.live b.node fair)

-- one act, and then another
pub act_then : {p : Bool} (s : SystemState) (n k : ℕ) (a : Act) (g : Node → Act) → IsReady s n → ReachedBy p s n k a → ((t : SystemState) (j : ℕ) → IsReady t n → Keeps (s.node n) (t.node n) → ReachedBy p t n j (g (t.node n))) → ReachedBy p s n k (joined a (g a.node))
act_then {p = p} s n k a g ready r on =
    cut_then s n k a.node (g a.node).node a.sent (g a.node).sent ready r
    (λ t j rt b. subst (λ (m : Node). ReachesBy p t n (g m).node (take j (g m).sent)) b.node (on t j rt (let keeps = r.keeps in rw (b.node) keeps)))

-- an answer, and then an act
pub did_then_reaches : {p : Bool} {A : Type 0} (s : SystemState) (n k : ℕ) (d : Did A) (g : Node → Act) → IsReady s n → AnsweredBy p s n k d → ((t : SystemState) (j : ℕ) → IsReady t n → ReachedBy p t n j (g (t.node n))) → AnsweredBy p s n k (did_joined d (g d.node))
did_then_reaches {p = p} s n k d g ready r on =
    cut_then s n k d.node (g d.node).node d.sent (g d.node).sent ready r
    (λ t j rt b. subst (λ (m : Node). ReachesBy p t n (g m).node (take j (g m).sent)) b.node (on t j rt))
