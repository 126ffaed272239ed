-- The rules can be met: a node that is alone has its own request decided.
use Rattle.std.specs.Prelude.{ℕ, ◌≡◌, ◌≢◌, true, false, ◌==◌, List, [], ◌∷◌, length, Option, Some, None, if◌then◌else◌}
use Rattle.std.proofs.Common.{arith, refl, sym, subst, ◌∙◌, inl, inr, ne_eqb}
use Rattle.std.proofs.lemmas.Bool.{cond-false, cond_both, cases_eq, true≢false}
use Rattle.zeus_base.specs.Nodes.{has, with_node, meet, is_subset}
use Rattle.zeus_base.specs.NodeLaws.{RisesFrom}
use Rattle.zeus_base.specs.Order.{is_below}
use Rattle.zeus_base.specs.declared.value.Value.TheVariants.{Num}
use Rattle.zeus_packet.specs.Place.{source, arbiters, with_optional, new_place}
use Rattle.zeus_packet.specs.declared.place.Place.{Place}
use Rattle.zeus_packet.specs.declared.place.Proposal.{Proposal}
use Rattle.zeus_packet.specs.declared.place.Want.TheVariants.{Own}
use Rattle.zeus_packet.specs.declared.write.Content.{Content}
use Rattle.zeus_model.specs.declared.state.Entry.{Entry}
use Rattle.zeus_model.specs.declared.state.Gather.{Gather}
use Rattle.zeus_model.specs.Ownership.{settled_entry, gather_above, gather_for, greater_gather, noted}
use Rattle.zeus_model.specs.Tables.{nth, or_else}
use Rattle.ownership_safety.specs.Object.{Object, Letter, Acknowledges, In, here, there, IsSource, first_stamp}
use Rattle.ownership_safety.specs.Moves.{Acts, Drives, Notes, Decides, IsAboutProposal, to_collector, holds}
use Rattle.ownership_safety.specs.Kept.{IsStart}
use Rattle.ownership_safety.specs.Run.{IsReached, begins, moves, drives, notes, decides_first}

abbrev alone : Place
alone = record { owner = 0; replicas = 0 ∷ [] }

-- node 0 asks for what it owns: no rule here stands against it
abbrev asked : Proposal
asked = record { stamp = record { ver = 1; driver = 0 }; requester = 0; base = first_stamp; base_place = alone; want = Own }

-- a table in which node 0 alone differs
abbrev only_first : {A : Type 0} → A → A → ℕ → A
only_first a b n = if n == 0 then a else b

abbrev fresh : Entry
fresh = record { stamp = first_stamp; place = alone; proposal = None }

abbrev with_node_zero : Entry → Option Gather → List Letter → Object
with_node_zero e g letters =
    record {
      directory = 0 ∷ [];
      declared = alone;
      views = (0 ∷ []) ∷ [];
      stopped = only_first false true;
      epoch = λ n. 1;
      entry = only_first e fresh;
      gather = only_first g None;
      letters = letters;
    }

only_first-other : {A : Type 0} (a b : A) (m : ℕ) → m ≢ 0 → only_first a b m ≡ b
only_first-other a b m other = cond-false _ _ _ (ne_eqb m 0 other)

only_first-same : {A : Type 0} (a : A) (m : ℕ) → only_first a a m ≡ a
only_first-same a m = cond_both (m == 0) a a (λ x. x ≡ a) (λ h. refl) (λ h. refl)

abbrev content : Content
content = record { ver = 0; value = Num 0 }

abbrev ack : Letter
ack = Acknowledges 0 0 1 asked (Some content)

abbrev start_object : Object
start_object = with_node_zero fresh None []

abbrev driven_object : Object
driven_object = with_node_zero (holds fresh asked) None (ack ∷ [])

abbrev all_acks : Gather
all_acks = noted (gather_for asked None) 0 (Some content)

abbrev gathered_object : Object
gathered_object = with_node_zero (holds fresh asked) (Some all_acks) (ack ∷ [])

abbrev decided_object : Object
decided_object = with_node_zero (settled_entry (holds fresh asked) asked.stamp (new_place asked)) (gather_above asked.stamp (Some all_acks)) (ack ∷ [])

-- ---- the beginning

first_member : (n : ℕ) → only_first false true n ≡ false → has n (0 ∷ []) ≡ true
unfolding has
first_member n live =
    elim (cases_eq n 0) [
      | inl same ↦ rw same refl
      | inr other ↦ absurd (true≢false (sym (only_first-other false true n other) ∙ live))
    ]

starts : IsStart start_object
unfolding has RisesFrom
starts =
    record {
      declared = record { owner = refl; rising = (omega arith, tt) };
      members = 0 ∷ [];
      rising = (omega arith, tt);
      views = refl;
      letters = refl;
      entry = λ n. only_first-same fresh n;
      gather = λ n. only_first-same None n;
      epoch = λ n live. refl;
      member = first_member;
    }

-- ---- each move is of node 0

other_same : (e f : Entry) (g h : Option Gather) (letters more : List Letter) → Acts (with_node_zero e g letters) (with_node_zero f h more) 0
other_same e f g h letters more =
    record {
      setting = record { directory = refl; declared = refl; views = refl };
      others = record {
        stopped = λ m other. refl;
        epoch = λ m other. refl;
        entry = λ m other. only_first-other f fresh m other ∙ sym (only_first-other e fresh m other);
        gather = λ m other. only_first-other h None m other ∙ sym (only_first-other g None m other);
      };
      live = refl;
      stopped = refl;
      epoch = refl;
    }

only_one : {A : Type 0} (a b : A) → In a (b ∷ []) → a ≡ b
only_one a b (here _ _ e) = e
only_one a b (there _ _ m) = elim m [ ]

is_source : IsSource start_object 1 alone 0
unfolding source has nth
is_source = refl

kept_none : (l : Letter) → In l [] → In l (ack ∷ [])
kept_none l m = elim m [ ]

may_send : (l : Letter) → l ≡ ack → IsAboutProposal start_object 0 asked l
may_send l is =
    subst (λ (x : Letter). IsAboutProposal start_object 0 asked x) (sym is)
    (inr (to_collector 0 (Some content) (λ member. refl) (λ some. is_source, λ source. refl)))

first_drives : Drives start_object driven_object 0 asked
unfolding has nth
first_drives =
    record {
      acts = other_same fresh (holds fresh asked) None None [] (ack ∷ []);
      directory = refl;
      requester = refl;
      free = refl;
      stamp = refl;
      base = refl;
      base_place = refl;
      want = λ h. absurd cc;
      entry = refl;
      gather = refl;
      sends = record { kept = kept_none; only = λ l m. inr (may_send l (only_one l ack m)) };
      acked = (0, Some content, here ack [] refl);
    }

first_notes : Notes driven_object gathered_object 0 asked 0 (Some content)
unfolding is_below greater_gather
first_notes =
    record {
      acts = other_same (holds fresh asked) (holds fresh asked) None (Some all_acks) (ack ∷ []) (ack ∷ []);
      sent = here ack [] refl;
      below = refl;
      greatest = refl;
      entry = refl;
      gather = refl;
      sends = record { kept = λ l m. m; only = λ l m. inl m };
    }

first_decides : Decides gathered_object decided_object 0 all_acks
unfolding has nth source arbiters with_optional with_node meet is_subset gather_for or_else
first_decides =
    record {
      acts = other_same (holds fresh asked) (settled_entry (holds fresh asked) asked.stamp (new_place asked)) (Some all_acks) (gather_above asked.stamp (Some all_acks)) (ack ∷ []) (ack ∷ []);
      gathered = refl;
      directory = (0, refl, refl);
      source = (0, refl);
      content = refl;
      complete = refl;
      entry = refl;
      gather = refl;
      sends = record { kept = λ l m. m; only = λ l m. inl m };
    }

-- moves reach an object with one decided proposal
pub one_decision : (o : Object) × (chain : List Proposal) × IsReached o chain × (length chain ≡ 1)
unfolding gather_for
one_decision = (
  decided_object,
  asked ∷ [],
  moves gathered_object decided_object [] (asked ∷ [])
      (moves driven_object gathered_object [] [] (moves start_object driven_object [] [] (begins start_object starts) (drives 0 asked first_drives)) (notes 0 asked 0 (Some content) first_notes))
      (decides_first 0 all_acks first_decides refl),
  refl,
)
