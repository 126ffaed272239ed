-- Each step keeps that every lease is covered by the service's expiry; so a node that was left out never acts.
use Rattle.std.proofs.Common.{◌≡◌, ◌≢◌, ℕ, zero, suc, ◌+◌, ◌*◌, ◌<◌, ◌≤◌, Bool, true, false, cond, List, [], ◌∷◌, ◌++◌, length, Option, Some, None, refl, sym, ap, ◌∙◌, arith, subst, length-append}
use Rattle.std.specs.Prelude.{◌==◌, ◌&&◌, not, nat_lt, nat_le, max, replicate, slice_get}
use Rattle.std.proofs.lemmas.Bool.{eqb-true, eqb-false, le-ltb}
use Rattle.std.proofs.lemmas.Bool.Decides.{nat_tests}
use Rattle.zeus_base.specs.Nodes.{has, with_node}
use Rattle.zeus_base.specs.Tables.{numbers_from}
use Rattle.zeus_base.specs.TableLaws.{nth-append, nth-last, nth-put_same, nth-put_other, length-put}
use Rattle.zeus_model.specs.Tables.{nth, put}
use Rattle.zeus_model.specs.World.{last_view}
use Rattle.zeus_model.specs.declared.answer.Made.{Made}
use Rattle.zeus_model.specs.declared.answer.Made.TheVariants.{Installed}
use Rattle.zeus_lease.specs.declared.answer.LeaseAnswer.{LeaseAnswer}
use Rattle.zeus_lease.specs.declared.answer.LeaseAnswer.TheVariants as answers
use Rattle.zeus_lease.specs.declared.state.Ask.{Ask}
use Rattle.zeus_lease.specs.declared.state.Node.{Node}
use Rattle.zeus_lease.specs.declared.step.LeaseStep.{LeaseStep}
use Rattle.zeus_lease.specs.declared.step.LeaseStep.TheVariants as steps
use Rattle.zeus_lease.specs.Kept.{IsCovered, IsSafe, ask_of}
use Rattle.zeus_lease.specs.Law.{IsLeftOut, NeverActs}
use Rattle.zeus_lease.specs.Machine.{Machine, Did, just, no_node, no_ask, node, with_node_at, wait, start, skew, went_on, pass_or_not, ask, hear, granted, later, take, take_by, act, act_by, may_act, is_below_end, view, happens, stepped, run}
use Rattle.zeus_lease.proofs.Views.{view_safe, view_leaves_out, view_made}
use Rattle.zeus_lease.proofs.Clocks.{length-went_on, went_on-clock, went_on-le, went_on-end, went_on-expiry, keeps_ratio, pass_covers, end_comes, grant_covers, later_covers, wait_is_long}

-- ---- a node that was left out does not act

-- where the service has come to a node's expiry, the node's clock has come to the end of each of its leases
pub covered_ends : (m : Machine) (n end : ℕ) → IsCovered m n end → (node m n).expiry ≤ m.service → end ≤ (node m n).clock
covered_ends m n end covered came =
    end_comes (100 + m.percent) m.service (100 * wait m) end (node m n).clock m.length (node m n).expiry covered.clocks (omega arith) (wait_is_long m.length (100 + m.percent)) came

act_by_none : (m : Machine) (n : ℕ) → (act_by m n None).answer ≢ answers.Acted
unfolding act_by
act_by_none m n e = cc

act_by_ended : (m : Machine) (n end : ℕ) → end ≤ (node m n).clock → (act_by m n (Some end)).answer ≢ answers.Acted
unfolding act_by
act_by_ended m n end le = rw (le-ltb (node m n).clock end le) (λ e. cc)

not_acted : (m : Machine) (n : ℕ) (o : Option ℕ) → ((end : ℕ) → o ≡ Some end → end ≤ (node m n).clock) → (act_by m n o).answer ≢ answers.Acted
not_acted m n None h = act_by_none m n
not_acted m n (Some end) h = act_by_ended m n end (h end refl)

not_below : (clock : ℕ) (o : Option ℕ) → ((end : ℕ) → o ≡ Some end → end ≤ clock) → is_below_end clock o ≡ false
unfolding is_below_end
not_below clock None h = refl
not_below clock (Some end) h = le-ltb clock end (h end refl)

module _ (m : Machine) (n : ℕ) (safe : IsSafe m) (out : IsLeftOut m n) where
  ends : (end : ℕ) → (node m n).end ≡ Some end → end ≤ (node m n).clock
  ends end e = covered_ends m n end (safe.leases n end e) (safe.others n out)

  act_refused : (happens m (steps.Act n)).answer ≢ answers.Acted
  unfolding happens act
  act_refused = go (has n m.ended)
    where
      go : (b : Bool) → (cond {A = Did} b (record { machine = m; answer = answers.Ended }) (act_by m n (node m n).end)).answer ≢ answers.Acted
      go true = λ e. cc
      go false = not_acted m n (node m n).end ends

  may_not : may_act m n ≡ false
  unfolding may_act
  may_not = rw (not_below (node m n).clock (node m n).end ends) (go (has n m.ended))
    where
      go : (b : Bool) → (not b && false) ≡ false
      go true = refl
      go false = refl

  pub never_acts : NeverActs m n
  never_acts = (act_refused, may_not)

-- ---- the start

-- at the start each node is a new one
pub start_node : (nodes k : ℕ) → nth no_node (replicate nodes no_node) k ≡ no_node
unfolding nth
start_node zero k = refl
start_node (suc nodes) zero = refl
start_node (suc nodes) (suc k) = start_node nodes k

-- at the start there are that many nodes
pub start_length : (nodes : ℕ) → length (replicate nodes no_node) ≡ nodes
start_length zero = refl
start_length (suc nodes) = ap suc (start_length nodes)

has-below_lt : (i n k : ℕ) → has k (numbers_from i n) ≡ true → k < i + n
unfolding has numbers_from
has-below_lt i zero k h = absurd cc
has-below_lt i (suc n) k h = grind (arith, nat_tests, has-below_lt (suc i) n k)

-- at the start each lease is covered by the service's expiry
pub start_safe : (nodes term percent : ℕ) → IsSafe (start nodes term percent)
unfolding start last_view
start_safe nodes term percent = record {
  asks = λ i lt. absurd (omega arith);
  grants = λ g lt. absurd (omega arith);
  answered = λ g lt. absurd (omega arith);
  leases = λ n end e. absurd (none n end e);
  members = λ k h. length_is (has-below_lt 0 nodes k h);
  others = λ n h. rw (start_node nodes n) (omega arith);
}
  where
    none : (n end : ℕ) → (nth no_node (replicate nodes no_node) n).end ≡ Some end → ⊥
    none n end e = let same = start_node nodes n in let stays : no_node.end ≡ Some end = rw same at e in cc

    length_is : {k : ℕ} → k < 0 + nodes → k < length (replicate nodes no_node)
    length_is lt = omega (arith, start_length nodes)

-- ---- time passes

abbrev passed : Machine → List ℕ → Machine
passed m ticks = record m { nodes = went_on m.nodes ticks; service = m.service + nth 0 ticks (length m.nodes) }

module _ (m : Machine) (ticks : List ℕ) (safe : IsSafe m) (keeps : skew m.percent ticks (suc (length m.nodes)) ≡ None) where
  pass_covered : (n end : ℕ) → IsCovered m n end → IsCovered (passed m ticks) n end
  pass_covered n end covered =
      let ratio = keeps_ratio m.percent ticks (suc (length m.nodes)) (length m.nodes) n keeps (omega arith) (omega (arith, covered.there)) in
      record {
        there = rw (length-went_on m.nodes ticks) covered.there;
        clocks = rw (went_on-clock m.nodes ticks n covered.there, went_on-expiry m.nodes ticks n)
            (pass_covers (100 + m.percent) m.service (100 * wait m) end (node m n).clock m.length (node m n).expiry covered.clocks (nth 0 ticks (length m.nodes)) (nth 0 ticks n) ratio);
      }

  pass_safe : IsSafe (passed m ticks)
  pass_safe = record {
    asks = λ i lt. omega (arith, safe.asks i lt, went_on-le m.nodes ticks (ask_of m i).node);
    grants = λ g lt. pass_covered _ _ (safe.grants g lt);
    answered = safe.answered;
    leases = λ n end e. pass_covered n end (safe.leases n end (sym (went_on-end m.nodes ticks n) ∙ e));
    members = rw (length-went_on m.nodes ticks) safe.members;
    others = λ n h. rw (went_on-expiry m.nodes ticks n) (omega (arith, safe.others n h));
  }

pass_or_not_safe : (m : Machine) (ticks : List ℕ) (o : Option LeaseAnswer) → skew m.percent ticks (suc (length m.nodes)) ≡ o → IsSafe m → IsSafe (pass_or_not m ticks o).machine
unfolding pass_or_not
pass_or_not_safe m ticks (Some skewed) e safe = safe
pass_or_not_safe m ticks None e safe = pass_safe m ticks safe e

-- ---- a lease is asked for

ask_choice : (m : Machine) (n i : ℕ) → IsSafe m → i < suc (length m.asks) → (b : Bool) → (i == length m.asks) ≡ b
    → (nth no_ask (m.asks ++ record { node = n; clock = (node m n).clock } ∷ []) i).clock ≤ (node m (nth no_ask (m.asks ++ record { node = n; clock = (node m n).clock } ∷ []) i).node).clock
ask_choice m n i safe lt true e =
    rw (eqb-true i (length m.asks) e, nth-last) (omega arith)
ask_choice m n i safe lt false e =
    let other = eqb-false i (length m.asks) e in
    let low : i < length m.asks = omega arith in
    rw (nth-append no_ask m.asks (record { node = n; clock = (node m n).clock } ∷ []) i low) (safe.asks i low)

asked_safe : (m : Machine) (n : ℕ) → IsSafe m → IsSafe (record m { asks = m.asks ++ record { node = n; clock = (node m n).clock } ∷ [] })
asked_safe m n safe =
    let old = λ (g : ℕ) (lt : g < length m.grants). nth-append no_ask m.asks (record { node = n; clock = (node m n).clock } ∷ []) (nth 0 m.grants g) (safe.answered g lt) in
    let more : length (m.asks ++ record { node = n; clock = (node m n).clock } ∷ []) ≡ length m.asks + 1 = length-append m.asks (record { node = n; clock = (node m n).clock } ∷ []) in
    record {
      asks = λ i lt. ask_choice m n i safe (omega (arith, more, lt)) (i == length m.asks) refl;
      grants = λ g lt. let was = safe.grants g lt in rw (old g lt) (record { there = was.there; clocks = was.clocks });
      answered = λ g lt. omega (arith, more, safe.answered g lt);
      leases = λ k end e. let was = safe.leases k end e in record { there = was.there; clocks = was.clocks };
      members = safe.members;
      others = safe.others;
    }

ask_safe : (m : Machine) (n : ℕ) → IsSafe m → IsSafe (ask m n).machine
unfolding ask
ask_safe m n safe = go (has n m.ended)
  where
    go : (b : Bool) → IsSafe (cond {A = Did} b (record { machine = m; answer = answers.Ended }) (record { machine = record m { asks = m.asks ++ record { node = n; clock = (node m n).clock } ∷ [] }; answer = answers.Asked (length m.asks) })).machine
    go true = safe
    go false = asked_safe m n safe

-- ---- a node is changed

abbrev changed : Machine → ℕ → Node → Machine
changed m n new = with_node_at m n new

-- a node with the same clock and an expiry that is not earlier
module _ (m : Machine) (n : ℕ) (new : Node) (there : n < length m.nodes) (clock : new.clock ≡ (node m n).clock) (expiry : (node m n).expiry ≤ new.expiry) where
  changed_covered : (k end : ℕ) → IsCovered m k end → IsCovered (changed m n new) k end
  changed_covered k end covered = go (n == k) refl
    where
      go : (b : Bool) → (n == k) ≡ b → IsCovered (changed m n new) k end
      go true e =
          let is : n ≡ k = eqb-true n k e in
          let here : nth no_node (put no_node m.nodes n new) k ≡ new = rw (← is) (nth-put_same no_node m.nodes n new) in
          let was = rw (← is) at covered.clocks in
          record {
            there = rw (length-put no_node m.nodes n new there) covered.there;
            clocks = rw (here, clock) (later_covers _ _ (node m n).expiry new.expiry was expiry);
          }
      go false e =
          record {
            there = rw (length-put no_node m.nodes n new there) covered.there;
            clocks = rw (nth-put_other no_node m.nodes n k new (eqb-false n k e)) covered.clocks;
          }

-- if a node is changed and its clock is not, then no clock changes
pub changed_clock : (m : Machine) (n : ℕ) (new : Node) → new.clock ≡ (node m n).clock → (k : ℕ) → (node (changed m n new) k).clock ≡ (node m k).clock
changed_clock m n new clock k = go (n == k) refl
  where
    go : (b : Bool) → (n == k) ≡ b → (node (changed m n new) k).clock ≡ (node m k).clock
    go true e =
        let is : n ≡ k = eqb-true n k e in
        rw (← is, nth-put_same no_node m.nodes n new) clock
    go false e = rw (nth-put_other no_node m.nodes n k new (eqb-false n k e)) refl

-- what a look by index finds
pub found_at : {A : Type 0} (d : A) (xs : List A) (i : ℕ) (x : A) → slice_get xs i ≡ Some x → (nth d xs i ≡ x) × (i < length xs)
unfolding nth
found_at d [] i x e = absurd cc
found_at d (y ∷ ys) zero x e = (cc, omega arith)
found_at d (y ∷ ys) (suc i) x e = let rest = found_at d ys i x e in (rest.0, omega (arith, rest.1))

max_second : (a b : ℕ) → nat_le a b ≡ true → max a b ≡ b
max_second a b e = grind (arith, nat_tests)

max_first : (a b : ℕ) → nat_le a b ≡ false → max a b ≡ a
max_first a b e = grind (arith, nat_tests)

-- what is safe does not see who has ended, nor how many steps were taken
ended_safe : (m : Machine) (ended : List ℕ) → IsSafe m → IsSafe (record m { ended = ended })
ended_safe m ended safe = record {
  asks = safe.asks;
  grants = λ g lt. let was = safe.grants g lt in record { there = was.there; clocks = was.clocks };
  answered = safe.answered;
  leases = λ n end e. let was = safe.leases n end e in record { there = was.there; clocks = was.clocks };
  members = safe.members;
  others = safe.others;
}

counted_safe : (m : Machine) (count : ℕ) → IsSafe m → IsSafe (record m { steps = count })
counted_safe m count safe = record {
  asks = safe.asks;
  grants = λ g lt. let was = safe.grants g lt in record { there = was.there; clocks = was.clocks };
  answered = safe.answered;
  leases = λ n end e. let was = safe.leases n end e in record { there = was.there; clocks = was.clocks };
  members = safe.members;
  others = safe.others;
}

-- ---- the service grants

abbrev granted_node : Machine → ℕ → Node
granted_node m n = record (node m n) { expiry = max (node m n).expiry (m.service + wait m) }

-- the node of an ask that the service hears is a member, and its ask is not later than its clock
module _ (m : Machine) (i : ℕ) (a : Ask) (safe : IsSafe m) (is : ask_of m i ≡ a) (there : i < length m.asks) (member : has a.node (last_view m.views) ≡ true) where
  abbrev new : Node
  new = granted_node m a.node

  exists : a.node < length m.nodes
  exists = safe.members a.node member

  abbrev after : Machine
  after = (granted m i a.node).machine

  kept_covered : (k end : ℕ) → IsCovered m k end → IsCovered after k end
  kept_covered k end covered =
      let was = changed_covered m a.node new exists refl (omega arith) k end covered in
      record { there = was.there; clocks = was.clocks }

  new_covered : IsCovered after a.node (a.clock + m.length)
  new_covered =
      let before : a.clock ≤ (node m a.node).clock = subst (λ (b : Ask). b.clock ≤ (node m b.node).clock) is (safe.asks i there) in
      let here : nth no_node (put no_node m.nodes a.node new) a.node ≡ new = nth-put_same no_node m.nodes a.node new in
      record {
        there = rw (length-put no_node m.nodes a.node new exists) exists;
        clocks = rw here (grant_covers (100 + m.percent) m.service (wait m) a.clock (node m a.node).clock m.length new.expiry before (omega arith));
      }

  grant_choice : (g : ℕ) → g < suc (length m.grants) → (b : Bool) → (g == length m.grants) ≡ b
      → IsCovered after (ask_of m (nth 0 (m.grants ++ i ∷ []) g)).node ((ask_of m (nth 0 (m.grants ++ i ∷ []) g)).clock + m.length) × (nth 0 (m.grants ++ i ∷ []) g < length m.asks)
  grant_choice g lt true e =
      rw (eqb-true g (length m.grants) e, nth-last, is) (new_covered, there)
  grant_choice g lt false e =
      let other = eqb-false g (length m.grants) e in
      let low : g < length m.grants = omega arith in
      rw (nth-append 0 m.grants (i ∷ []) g low) (kept_covered _ _ (safe.grants g low), safe.answered g low)

  other_expiry : (n : ℕ) → has n (last_view m.views) ≡ false → (node after n).expiry ≤ m.service
  other_expiry n h = go (a.node == n) refl
    where
      go : (b : Bool) → (a.node == n) ≡ b → (node after n).expiry ≤ m.service
      go true e =
          let same : a.node ≡ n = eqb-true a.node n e in
          let there : has n (last_view m.views) ≡ true = rw same at member in absurd cc
      go false e = rw (nth-put_other no_node m.nodes a.node n new (eqb-false a.node n e)) (safe.others n h)

  granted_same : (n end : ℕ) → a.node ≡ n → (node after n).end ≡ Some end → (node m n).end ≡ Some end
  granted_same n end same e =
      ap (λ (k : ℕ). (node m k).end) (sym same) ∙ ap (λ (x : Node). x.end) (sym (nth-put_same no_node m.nodes a.node new)) ∙ ap (λ (k : ℕ). (node after k).end) same ∙ e

  granted_end : (n end : ℕ) → (node after n).end ≡ Some end → (node m n).end ≡ Some end
  granted_end n end e = go (a.node == n) refl
    where
      go : (b : Bool) → (a.node == n) ≡ b → (node m n).end ≡ Some end
      go true f =
          let same : a.node ≡ n = eqb-true a.node n f in
          granted_same n end same e
      go false f = ap (λ (x : Node). x.end) (sym (nth-put_other no_node m.nodes a.node n new (eqb-false a.node n f))) ∙ e

  granted_safe : IsSafe after
  granted_safe =
      let more : length (m.grants ++ i ∷ []) ≡ length m.grants + 1 = length-append m.grants (i ∷ []) in
      record {
        asks = λ j lt. rw (changed_clock m a.node new refl (ask_of m j).node) (safe.asks j lt);
        grants = λ g lt. (grant_choice g (omega (arith, more, lt)) (g == length m.grants) refl).0;
        answered = λ g lt. (grant_choice g (omega (arith, more, lt)) (g == length m.grants) refl).1;
        leases = λ n end e. kept_covered n end (safe.leases n end (granted_end n end e));
        members = rw (length-put no_node m.nodes a.node new exists) safe.members;
        others = other_expiry;
      }

hear_safe : (m : Machine) (i : ℕ) (o : Option Ask) → slice_get m.asks i ≡ o → IsSafe m → IsSafe (hear m i o).machine
unfolding hear
hear_safe m i None e safe = safe
hear_safe m i (Some a) e safe =
    let found = found_at no_ask m.asks i a e in
    go (has a.node (last_view m.views)) refl found
  where
    go : (b : Bool) → has a.node (last_view m.views) ≡ b → (ask_of m i ≡ a) × (i < length m.asks) → IsSafe (cond {A = Did} b (granted m i a.node) (record { machine = m; answer = answers.Dropped })).machine
    go true h found = granted_safe m i a safe found.0 found.1 h
    go false h found = safe

-- ---- a node takes a lease

module _ (m : Machine) (i : ℕ) (g : ℕ) (safe : IsSafe m) (is : nth 0 m.grants g ≡ i) (there : g < length m.grants) where
  abbrev of : Ask
  of = ask_of m i

  covered_grant : IsCovered m of.node (of.clock + m.length)
  covered_grant = subst (λ (j : ℕ). IsCovered m (ask_of m j).node ((ask_of m j).clock + m.length)) is (safe.grants g there)

  abbrev until : ℕ
  until = later (node m of.node).end (of.clock + m.length)

  -- the later of two ends that are covered
  later_covered : (o : Option ℕ) → ((end : ℕ) → o ≡ Some end → IsCovered m of.node end) → IsCovered m of.node (later o (of.clock + m.length))
  unfolding later
  later_covered None h = covered_grant
  later_covered (Some end) h = go (nat_le end (of.clock + m.length)) refl
    where
      go : (b : Bool) → nat_le end (of.clock + m.length) ≡ b → IsCovered m of.node (max end (of.clock + m.length))
      go true e = let same : max end (of.clock + m.length) ≡ of.clock + m.length = max_second end (of.clock + m.length) e in rw same covered_grant
      go false e = let same : max end (of.clock + m.length) ≡ end = max_first end (of.clock + m.length) e in rw same (h end refl)

  until_covered : IsCovered m of.node until
  until_covered = later_covered (node m of.node).end (λ end e. safe.leases of.node end e)

  abbrev holding : Node
  holding = record (node m of.node) { end = Some until }

  abbrev held : Machine
  held = with_node_at m of.node holding

  held_covered : (k end : ℕ) → IsCovered m k end → IsCovered held k end
  held_covered k end covered = changed_covered m of.node holding covered_grant.there refl (omega arith) k end covered

  held_lease : (n end : ℕ) → (node held n).end ≡ Some end → IsCovered held n end
  held_lease n end e = go (of.node == n) refl
    where
      go : (b : Bool) → (of.node == n) ≡ b → IsCovered held n end
      go true f =
          let same : of.node ≡ n = eqb-true of.node n f in
          let it : Some until ≡ Some end = ap (λ (x : Node). x.end) (sym (nth-put_same no_node m.nodes of.node holding)) ∙ ap (λ (k : ℕ). (node held k).end) same ∙ e in
          let end_is : until ≡ end = cc in
          held_covered n end (subst (λ (k : ℕ). IsCovered m k end) same (subst (IsCovered m of.node) end_is until_covered))
      go false f = held_covered n end (safe.leases n end (ap (λ (x : Node). x.end) (sym (nth-put_other no_node m.nodes of.node n holding (eqb-false of.node n f))) ∙ e))

  held_expiry : (n : ℕ) → (node held n).expiry ≡ (node m n).expiry
  held_expiry n = go (of.node == n) refl
    where
      go : (b : Bool) → (of.node == n) ≡ b → (node held n).expiry ≡ (node m n).expiry
      go true f =
          let same : of.node ≡ n = eqb-true of.node n f in
          rw (← same, nth-put_same no_node m.nodes of.node holding) refl
      go false f = rw (nth-put_other no_node m.nodes of.node n holding (eqb-false of.node n f)) refl

  held_safe : IsSafe held
  held_safe = record {
    asks = λ j lt. rw (changed_clock m of.node holding refl (ask_of m j).node) (safe.asks j lt);
    grants = λ k lt. held_covered _ _ (safe.grants k lt);
    answered = safe.answered;
    leases = held_lease;
    members = rw (length-put no_node m.nodes of.node holding covered_grant.there) safe.members;
    others = λ n h. rw (held_expiry n) (safe.others n h);
  }

take_safe : (m : Machine) (g : ℕ) (o : Option ℕ) → slice_get m.grants g ≡ o → IsSafe m → IsSafe (take m o).machine
unfolding take take_by
take_safe m g None e safe = safe
take_safe m g (Some i) e safe = go (has (ask_of m i).node m.ended) (found_at 0 m.grants g i e)
  where
    go : (b : Bool) → (nth 0 m.grants g ≡ i) × (g < length m.grants)
        → IsSafe (cond {A = Did} b (just m answers.Ended) (just (with_node_at m (ask_of m i).node (record (node m (ask_of m i).node) { end = Some (later (node m (ask_of m i).node).end ((ask_of m i).clock + m.length)) })) (answers.Held (later (node m (ask_of m i).node).end ((ask_of m i).clock + m.length))))).machine
    go true found = safe
    go false found = held_safe m i g safe found.0 found.1

-- ---- a node acts

act_by_safe : (m : Machine) (n : ℕ) (o : Option ℕ) → IsSafe m → IsSafe (act_by m n o).machine
unfolding act_by
act_by_safe m n None safe = safe
act_by_safe m n (Some end) safe = go (nat_lt (node m n).clock end)
  where
    go : (b : Bool) → IsSafe (cond {A = Did} b (record { machine = m; answer = answers.Acted }) (record { machine = record m { ended = with_node n m.ended }; answer = answers.Ended })).machine
    go true = safe
    go false = ended_safe m (with_node n m.ended) safe

act_safe : (m : Machine) (n : ℕ) → IsSafe m → IsSafe (act m n).machine
unfolding act
act_safe m n safe = go (has n m.ended)
  where
    go : (b : Bool) → IsSafe (cond {A = Did} b (record { machine = m; answer = answers.Ended }) (act_by m n (node m n).end)).machine
    go true = safe
    go false = act_by_safe m n (node m n).end safe

-- ---- steps

happens_safe : (m : Machine) (s : LeaseStep) → IsSafe m → IsSafe (happens m s).machine
unfolding happens
happens_safe m (steps.Pass ticks) safe = pass_or_not_safe m ticks (skew m.percent ticks (suc (length m.nodes))) refl safe
happens_safe m (steps.Ask n) safe = ask_safe m n safe
happens_safe m (steps.Hear i) safe = hear_safe m i (slice_get m.asks i) refl safe
happens_safe m (steps.Take i) safe = take_safe m i (slice_get m.grants i) refl safe
happens_safe m (steps.Act n) safe = act_safe m n safe
happens_safe m (steps.View set) safe = view_safe m set safe

-- if each lease is covered by the service's expiry, then each is after a step
pub stepped_safe : (m : Machine) (s : LeaseStep) → IsSafe m → IsSafe (stepped m s)
unfolding stepped
stepped_safe m s safe = counted_safe (happens m s).machine (suc m.steps) (happens_safe m s safe)

-- ---- who is left out stays so

pass_views : (m : Machine) (ticks : List ℕ) (o : Option LeaseAnswer) → (pass_or_not m ticks o).machine.views ≡ m.views
unfolding pass_or_not
pass_views m ticks (Some skewed) = refl
pass_views m ticks None = refl

ask_views : (m : Machine) (n : ℕ) → (ask m n).machine.views ≡ m.views
unfolding ask
ask_views m n = elim (has n m.ended) as (λ b. (cond {A = Did} b (just m answers.Ended) (just (record m { asks = m.asks ++ record { node = n; clock = (node m n).clock } ∷ [] }) (answers.Asked (length m.asks)))).machine.views ≡ m.views) [
  | true ↦ refl
  | false ↦ refl
]

hear_views : (m : Machine) (i : ℕ) (o : Option Ask) → (hear m i o).machine.views ≡ m.views
unfolding hear
hear_views m i None = refl
hear_views m i (Some a) = elim (has a.node (last_view m.views)) as (λ b. (cond {A = Did} b (granted m i a.node) (just m answers.Dropped)).machine.views ≡ m.views) [
  | true ↦ refl
  | false ↦ refl
]

take_views : (m : Machine) (o : Option ℕ) → (take m o).machine.views ≡ m.views
unfolding take take_by
take_views m None = refl
take_views m (Some i) = elim (has (ask_of m i).node m.ended) as (λ b. (cond {A = Did} b (just m answers.Ended) (just (with_node_at m (ask_of m i).node (record (node m (ask_of m i).node) { end = Some (later (node m (ask_of m i).node).end ((ask_of m i).clock + m.length)) })) (answers.Held (later (node m (ask_of m i).node).end ((ask_of m i).clock + m.length))))).machine.views ≡ m.views) [
  | true ↦ refl
  | false ↦ refl
]

act_by_views : (m : Machine) (n : ℕ) (o : Option ℕ) → (act_by m n o).machine.views ≡ m.views
unfolding act_by
act_by_views m n None = refl
act_by_views m n (Some end) = elim (nat_lt (node m n).clock end) as (λ b. (cond {A = Did} b (just m answers.Acted) (just (record m { ended = with_node n m.ended }) answers.Ended)).machine.views ≡ m.views) [
  | true ↦ refl
  | false ↦ refl
]

act_views : (m : Machine) (n : ℕ) → (act m n).machine.views ≡ m.views
unfolding act
act_views m n = elim (has n m.ended) as (λ b. (cond {A = Did} b (just m answers.Ended) (act_by m n (node m n).end)).machine.views ≡ m.views) [
  | true ↦ refl
  | false ↦ act_by_views m n (node m n).end
]

happens_leaves_out : (m : Machine) (s : LeaseStep) (n : ℕ) → IsLeftOut m n → IsLeftOut (happens m s).machine n
unfolding happens view
happens_leaves_out m (steps.Pass ticks) n out = rw (pass_views m ticks (skew m.percent ticks (suc (length m.nodes)))) out
happens_leaves_out m (steps.Ask k) n out = rw (ask_views m k) out
happens_leaves_out m (steps.Hear i) n out = rw (hear_views m i (slice_get m.asks i)) out
happens_leaves_out m (steps.Take i) n out = rw (take_views m (slice_get m.grants i)) out
happens_leaves_out m (steps.Act k) n out = rw (act_views m k) out
happens_leaves_out m (steps.View set) n out = view_leaves_out m set n out

-- if the last view leaves a node out, then it does after a step
pub stepped_leaves_out : (m : Machine) (s : LeaseStep) (n : ℕ) → IsLeftOut m n → IsLeftOut (stepped m s) n
unfolding stepped
stepped_leaves_out m s n out = happens_leaves_out m s n out

-- if each lease is covered by the service's expiry, then each is after a run
pub run_safe : (m : Machine) (ss : List LeaseStep) → IsSafe m → IsSafe (run m ss)
unfolding run
run_safe m [] safe = safe
run_safe m (s ∷ ss) safe = run_safe (stepped m s) ss (stepped_safe m s safe)

-- if the last view leaves a node out, then it does after a run
pub run_leaves_out : (m : Machine) (ss : List LeaseStep) (n : ℕ) → IsLeftOut m n → IsLeftOut (run m ss) n
unfolding run
run_leaves_out m [] n out = out
run_leaves_out m (s ∷ ss) n out = run_leaves_out (stepped m s) ss n (stepped_leaves_out m s n out)

run-append : (m : Machine) (xs ys : List LeaseStep) → run m (xs ++ ys) ≡ run (run m xs) ys
unfolding run
run-append m [] ys = refl
run-append m (s ∷ xs) ys = run-append (stepped m s) xs ys

-- ---- the law

module _ (nodes term percent : ℕ) (before after : List LeaseStep) (n : ℕ) (out : IsLeftOut (run (start nodes term percent) before) n) where
  pub law_stays : IsLeftOut (run (start nodes term percent) (before ++ after)) n
  law_stays = rw (run-append (start nodes term percent) before after) (run_leaves_out (run (start nodes term percent) before) after n out)

  pub law_never : NeverActs (run (start nodes term percent) (before ++ after)) n
  law_never =
      let safe = run_safe (start nodes term percent) (before ++ after) (start_safe nodes term percent) in
      never_acts (run (start nodes term percent) (before ++ after)) n safe law_stays

viewed_is : (a b : Made) → answers.View a ≡ answers.View b → a ≡ b
viewed_is a b e = cc

-- if a view is installed, then each node that it does not have is left out by the last view
pub law_view : (m : Machine) (set : List ℕ) (epoch n : ℕ) → (happens m (steps.View set)).answer ≡ answers.View (Installed epoch) → has n set ≡ false → IsLeftOut (stepped m (steps.View set)) n
unfolding stepped happens view
law_view m set epoch n e h = rw (view_made m set epoch (viewed_is _ _ e)) h
