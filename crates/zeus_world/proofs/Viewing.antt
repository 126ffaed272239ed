-- A view is made or refused: what the world is after it.
use Rattle.std.proofs.Common.{ℕ, zero, suc, ◌≡◌, ◌≢◌, ◌<◌, ◌≤◌, ◌+◌, ◌-◌, ◌&&◌, ◌||◌, ◌⊎◌, inl, inr, Bool, true, false, not, List, [], ◌∷◌, Option, Some, None, length, refl, sym, ap, ◌∙◌, subst, arith}
use Rattle.std.specs.Prelude.{IfSome, is_some, if◌then◌else◌}
use Rattle.zeus_base.specs.Limits.{limits_of}
use Rattle.zeus_base.specs.Nodes.{has, with_node}
use Rattle.zeus_base.specs.NodeLaws.{has-with_other, has-with_same}
use Rattle.zeus_base.specs.declared.config.Limits.{Limits}
use Rattle.zeus_base.specs.declared.step.Step.TheVariants.{View}
use Rattle.zeus_packet.specs.Fits.{nodes_fit}
use Rattle.zeus_txn.specs.declared.tx.TxDecl.{TxDecl}
use Rattle.zeus_model.specs.Book.{Book, counted, record_of}
use Rattle.zeus_model.specs.Readers.{is_acked, is_ended, waits_in_vain}
use Rattle.zeus_model.specs.Tables.{nth}
use Rattle.zeus_model.specs.World.{World, Event, happens, last_view, node, stepped, tx_decl, view_or_not, view_refused}
use Rattle.zeus_model.specs.declared.answer.Answer.TheVariants.{View as ViewAnswer}
use Rattle.zeus_model.specs.declared.answer.Made.{Made}
use Rattle.membership.specs.Views.{IsWorldWith}
use Rattle.node_ranges.specs.NodeSets.{nodes_fit-has, nodes_fit-none}
use Rattle.reached_worlds.specs.Ranged.{IsRanged}
use Rattle.reached_worlds.proofs.Ranging.{tx_fits}
use Rattle.zeus_world.specs.Taken.{IsAlone, IsTaken}
use Rattle.zeus_world.specs.declared.event.StepEvent.{StepEvent}

-- an event that changes the views alone, and tells its answer alone
record IsPlain (w : World) (e : Event) : Type 0 where
  world : e.world ≡ record w { views = e.world.views; book = counted w.book }
  points : e.points ≡ []
  acks : e.acked ≡ []
  sent : e.sent ≡ []

plain_view : (w : World) (set : List ℕ) (o : Option Made) → IsPlain w (view_or_not w set o)
unfolding view_or_not
plain_view w set (Some m) = record { world = refl; points = refl; acks = refl; sent = refl }
plain_view w set None = record { world = refl; points = refl; acks = refl; sent = refl }

plain_happens : (w : World) (set : List ℕ) → IsPlain w (happens w (View set))
unfolding happens
plain_happens w set = plain_view w set (view_refused w set)

-- the world with other views and another book
abbrev pub world_seen : World → List (List ℕ) → Book → World
world_seen w views book = record w { views = views; book = book }

-- if a view was made or refused and nothing else is told, then what is told and the world are those of the step
pub view_taken : (w : World) (set : List ℕ) (m : Made) (views : List (List ℕ)) (b : Book) (r : StepEvent) → ViewAnswer m ≡ (happens w (View set)).answer → views ≡ (stepped w (View set)).views → b ≡ counted w.book
    → IsAlone (ViewAnswer m) r → IsTaken r (world_seen w views b) (happens w (View set))
view_taken w set m views b r says seen book alone =
    let plain = plain_happens w set in
    record {
      tells = record { answer = alone.says ∙ says; points = alone.points ∙ sym plain.points; acked = alone.acked ∙ sym plain.acks; sent = alone.sent ∙ sym plain.sent };
      becomes = ap (λ (v : List (List ℕ)). world_seen w v b) seen ∙ ap (λ (d : Book). world_seen w (stepped w (View set)).views d) book ∙ sym plain.world;
    }

-- the members of the last view are nodes
last_fits : (limits : Limits) (views : List (List ℕ)) → ((i : ℕ) → nodes_fit limits (nth [] views i) ≡ true) → nodes_fit limits (last_view views) ≡ true
unfolding last_view nth
last_fits limits [] h = nodes_fit-none limits
last_fits limits (v ∷ []) h = h 0
last_fits limits (v ∷ (u ∷ us)) h = last_fits limits (u ∷ us) (λ i. h (suc i))

-- if a set has the stopped nodes of the configuration, then the world has these views and these stopped nodes
pub is_world_with : (w : World) (stopped : List ℕ) → IsRanged w → ((n : ℕ) → n < w.config.nodes → has n stopped ≡ (node w n).stopped) → IsWorldWith w w.views stopped
is_world_with w stopped r h = record {
  views = refl;
  stops = λ n member. sym (h n (nodes_fit-has (limits_of w.config) (last_view w.views) n (last_fits (limits_of w.config) w.views r.members) member));
}

-- ---- the stopped nodes, one after another

number_or_not : (a b : ℕ) → (a ≡ b) ⊎ (a ≢ b)
number_or_not zero zero = inl refl
number_or_not zero (suc b) = inr (λ e. omega arith)
number_or_not (suc a) zero = inr (λ e. omega arith)
number_or_not (suc a) (suc b) = elim (number_or_not a b) [ inl e ↦ inl (ap suc e) | inr d ↦ inr (λ e. d (omega arith)) ]

-- the set with the node where a test holds
added_here : (set : List ℕ) (at : ℕ) (b : Bool) → has at set ≡ false → has at (if b then with_node at set else set) ≡ b
added_here set at true h = has-with_same at set
added_here set at false h = h

added_other : (set : List ℕ) (at n : ℕ) (b : Bool) → n ≢ at → has n (if b then with_node at set else set) ≡ has n set
added_other set at n true h = has-with_other n at set h
added_other set at n false h = refl

-- if a set has the stopped nodes below a number, then with that number, if stopped, it has those below the next
pub below_more : (w : World) (set more : List ℕ) (at : ℕ) → ((n : ℕ) → n < at → has n set ≡ (node w n).stopped) → ((n : ℕ) → at ≤ n → has n set ≡ false) → more ≡ (if (node w at).stopped then with_node at set else set)
    → (n : ℕ) → n < at + 1 → has n more ≡ (node w n).stopped
below_more w set more at below above e n h = elim (number_or_not n at) [
  | inl same ↦ rw (same, e) (added_here set at (node w at).stopped (above at (omega arith)))
  | inr other ↦ rw e (added_other set at n (node w at).stopped other ∙ below n (omega arith))
]

-- if a set has no number from one on, then with that number, if stopped, it has none from the next on
pub above_more : (w : World) (set more : List ℕ) (at : ℕ) → ((n : ℕ) → at ≤ n → has n set ≡ false) → more ≡ (if (node w at).stopped then with_node at set else set) → (n : ℕ) → at + 1 ≤ n → has n more ≡ false
above_more w set more at above e n h = rw e (added_other set at n (node w at).stopped (λ q. omega arith) ∙ above n (omega arith))

-- ---- a transaction that waits in vain

-- if a transaction waits for none, then it does not wait in vain
pub vain_none : (w : World) (links : ℕ) (o : Option ℕ) → o ≡ None → waits_in_vain w links o ≡ false
unfolding waits_in_vain
vain_none w links o e = rw e refl

-- after no more links of the chain nothing waits in vain
pub vain_end : (w : World) (links : ℕ) (o : Option ℕ) → links ≡ 0 → waits_in_vain w links o ≡ false
unfolding waits_in_vain
vain_end w links None e = refl
vain_end w links (Some j) e = rw e refl

vain_on : (w : World) (links j : ℕ) → 0 < links → waits_in_vain w links (Some j) ≡ (not (is_acked w j) && (is_ended w j || waits_in_vain w (links - 1) (tx_decl w j).after))
unfolding waits_in_vain
vain_on w zero j h = absurd (omega arith)
vain_on w (suc links) j h = let z : suc links - 1 ≡ links = omega arith in rw z refl

-- if the transaction that is waited for is acknowledged, then nothing waits in vain
pub vain_acked : (w : World) (links j : ℕ) (o : Option ℕ) → 0 < links → o ≡ Some j → is_acked w j ≡ true → waits_in_vain w links o ≡ false
vain_acked w links j o h e a = rw e (vain_on w links j h ∙ (rw a refl))

-- if the transaction that is waited for has ended without an acknowledgement, then it is waited for in vain
pub vain_ended : (w : World) (links j : ℕ) (o : Option ℕ) → 0 < links → o ≡ Some j → is_acked w j ≡ false → is_ended w j ≡ true → waits_in_vain w links o ≡ true
vain_ended w links j o h e a b = rw e (vain_on w links j h ∙ (rw (a, b) refl))

-- if the transaction that is waited for has not ended, then it is waited for in vain exactly if it waits in vain itself
pub vain_later : (w : World) (links j : ℕ) (o : Option ℕ) → 0 < links → o ≡ Some j → is_acked w j ≡ false → is_ended w j ≡ false → waits_in_vain w (links - 1) (tx_decl w j).after ≡ waits_in_vain w links o
vain_later w links j o h e a b = sym (rw e (vain_on w links j h ∙ (rw (a, b) refl)))

-- the transaction that one waits for is there
pub after_there : (w : World) (k : ℕ) → IsRanged w → k < length w.txs → IfSome (tx_decl w k).after (λ j. j < length w.txs)
after_there w k r h = sooner (tx_decl w k).after k (length w.txs) h (tx_fits w k r h).after
  where
    sooner : (o : Option ℕ) (k n : ℕ) → k < n → IfSome o (λ j. j < k) → IfSome o (λ j. j < n)
    sooner None k n h s = tt
    sooner (Some j) k n h s = omega arith

-- if an optional number is there and below a bound if it is there, then it is below it
pub some_there : (o : Option ℕ) (j n : ℕ) → o ≡ Some j → IfSome o (λ i. i < n) → j < n
some_there None j n e h = cc
some_there (Some i) j n e h = let same : i ≡ j = cc in rw (← same) h

-- no number is in the empty set
pub none_stopped : (n : ℕ) → has n [] ≡ false
unfolding has
none_stopped n = refl
