-- The sends that are due, as entries come, are acknowledged, and go.
use Rattle.std.proofs.Common.{ℕ, zero, suc, ◌≡◌, ◌+◌, ◌*◌, ◌<◌, ◌≤◌, Bool, true, false, List, [], ◌∷◌, ◌++◌, length, drop, refl, sym, ap, arith, append_assoc, length-append}
use Rattle.std.specs.List.{filter}
use Rattle.std.proofs.lemmas.Bool.Decides.{nat_tests}
use Rattle.std.proofs.lemmas.List.{append-nil}
use Rattle.std.proofs.lemmas.List.Elements.{filter-append}
use Rattle.zeus_base.proofs.NodeBits.{IsNodeSet-nodes_of}
use Rattle.zeus_base.specs.Bits.{bits_of, nodes_of}
use Rattle.zeus_base.specs.Nodes.{has, with_node, without, meet}
use Rattle.zeus_base.specs.NodeLaws.{IsNodeSet, has-with_node, length-below}
use Rattle.zeus_model.specs.declared.state.Pending.{Pending}
use Rattle.zeus_model.specs.Commit.{no_pending, acked_pending}
use Rattle.zeus_model.specs.Membership.{apart}
use Rattle.zeus_model.specs.Tables.{nth, put}
use Rattle.commit_pipeline.specs.declared.due.Due.{Due}
use Rattle.commit_pipeline.specs.Pipes.{HaveFewFollowers, is_of_other, is_other, is_to, lacking, lacking_among, sends, sends_of}

-- ---- sets of nodes

-- one acknowledgement more is one node less that lacks
pub apart-with_node : (k : ℕ) (ns acks : List ℕ) → apart ns (with_node k acks) ≡ without k (apart ns acks)
unfolding apart without
apart-with_node k [] acks = refl
apart-with_node k (n ∷ ns) acks = grind (arith, nat_tests, has-with_node n k acks, apart-with_node k ns acks)

-- the members among nodes without those that acknowledged are the members among them, without those that acknowledged
pub meet-apart : (ns acks members : List ℕ) → meet (apart ns acks) members ≡ apart (meet ns members) acks
unfolding apart meet
meet-apart [] acks members = refl
meet-apart (n ∷ ns) acks members = grind (arith, nat_tests, meet-apart ns acks members)

-- nodes without those that acknowledged are not more than the nodes
pub length-apart : (ns acks : List ℕ) → length (apart ns acks) ≤ length ns
unfolding apart
length-apart [] acks = omega arith
length-apart (n ∷ ns) acks = grind (arith, length-apart ns acks)

-- ---- the sends of one entry

-- there are as many sends of an entry as nodes
pub length-sends : (number : ℕ) (ns : List ℕ) → length (sends number ns) ≡ length ns
unfolding sends
length-sends number [] = refl
length-sends number (n ∷ ns) = ap suc (length-sends number ns)

-- the next node is due where it lacks
pub sends-lacking : (ds : List Due) (number n : ℕ) (ns all acks : List ℕ) → all ≡ n ∷ ns → has n acks ≡ false → (ds ++ record { number = number; to = n } ∷ []) ++ sends number (apart ns acks) ≡ ds ++ sends number (apart all acks)
unfolding sends apart
sends-lacking ds number n ns all acks is lacks = rw (is, lacks) (append_assoc ds (record { number = number; to = n } ∷ []) (sends number (apart ns acks)))

-- if the head node has acknowledged, then the sends that are due are those to the nodes behind it
pub sends-acked : (ds : List Due) (number n : ℕ) (ns all acks : List ℕ) → all ≡ n ∷ ns → has n acks ≡ true → ds ++ sends number (apart ns acks) ≡ ds ++ sends number (apart all acks)
unfolding apart
sends-acked ds number n ns all acks is acked = rw (is, acked) refl

-- if an entry has no follower, then no send is added
pub sends-none : (ds : List Due) (number : ℕ) (all acks : List ℕ) → all ≡ [] → ds ++ sends number (apart all acks) ≡ ds
unfolding sends apart
sends-none ds number all acks is = rw is (append-nil ds)

-- all pass a test that each passes
filter_all-sends : (test : Due → Bool) (number : ℕ) (ns : List ℕ) → ((k : ℕ) → test record { number = number; to = k } ≡ true) → filter test (sends number ns) ≡ sends number ns
unfolding sends
filter_all-sends test number [] h = refl
filter_all-sends test number (n ∷ ns) h = rw (h n) (ap (λ (ds : List Due). record { number = number; to = n } ∷ ds) (filter_all-sends test number ns h))

-- none is left of the entry
filter_number-sends : (number : ℕ) (ns : List ℕ) → filter (is_of_other number) (sends number ns) ≡ []
unfolding sends
filter_number-sends number [] = refl
filter_number-sends number (n ∷ ns) = grind (arith, nat_tests, filter_number-sends number ns)

filter_node-sends : (number k : ℕ) (ns : List ℕ) → filter (is_other number k) (sends number ns) ≡ sends number (without k ns)
unfolding sends without
filter_node-sends number k [] = refl
filter_node-sends number k (n ∷ ns) = grind (arith, nat_tests, filter_node-sends number k ns)

filter_to-sends : (members : List ℕ) (number : ℕ) (ns : List ℕ) → filter (is_to members) (sends number ns) ≡ sends number (meet ns members)
unfolding sends meet
filter_to-sends members number [] = refl
filter_to-sends members number (n ∷ ns) = grind (arith, filter_to-sends members number ns)

-- ---- the sends of all entries

-- all sends of later entries pass a test that each passes
filter_all : (test : Due → Bool) (nodes : Pending → List ℕ) (number : ℕ) (ps : List Pending) → ((n k : ℕ) → number ≤ n → test record { number = n; to = k } ≡ true) → filter test (sends_of nodes number ps) ≡ sends_of nodes number ps
unfolding sends_of
filter_all test nodes number [] h = refl
filter_all test nodes number (p ∷ ps) h =
    rw (
      filter-append test (sends number (nodes p)) (sends_of nodes (suc number) ps),
      filter_all-sends test number (nodes p) (λ k. h number k (omega arith)),
      filter_all test nodes (suc number) ps (λ n k l. h n k (omega arith)),
    )
    refl

other_number : (number n k : ℕ) → number < n → is_of_other number record { number = n; to = k } ≡ true
other_number number n k l = grind (arith, nat_tests)

other_entry : (number node n k : ℕ) → number < n → is_other number node record { number = n; to = k } ≡ true
other_entry number node n k l = grind (arith, nat_tests)

earlier_entry : (number node n k : ℕ) → n < number → is_other number node record { number = n; to = k } ≡ true
earlier_entry number node n k l = grind (arith, nat_tests)

-- without the sends of the lowest entry those of the others are left
pub filter_lowest : (nodes : Pending → List ℕ) (number : ℕ) (p : Pending) (ps : List Pending) → filter (is_of_other number) (sends_of nodes number (p ∷ ps)) ≡ sends_of nodes (suc number) ps
unfolding sends_of
filter_lowest nodes number p ps =
    rw (
      filter-append (is_of_other number) (sends number (nodes p)) (sends_of nodes (suc number) ps),
      filter_number-sends number (nodes p),
      filter_all (is_of_other number) nodes (suc number) ps (λ n k l. other_number number n k l),
    )
    refl

-- without the sends of one entry to a node, that entry has one acknowledgement more
pub filter_acked : (number n i k : ℕ) (ps : List Pending) → n ≡ number + i → i < length ps → filter (is_other n k) (sends_of lacking number ps) ≡ sends_of lacking number (put no_pending ps i (acked_pending (nth no_pending ps i) k))
unfolding sends_of nth put
filter_acked number n i k [] e h = absurd (omega arith)
filter_acked number n zero k (p ∷ ps) e h =
    let same : n ≡ number = omega arith in
    rw (
      same,
      filter-append (is_other number k) (sends number (lacking p)) (sends_of lacking (suc number) ps),
      filter_node-sends number k (lacking p),
      filter_all (is_other number k) lacking (suc number) ps (λ m j l. other_entry number k m j l),
      apart-with_node k p.followers p.acks,
    )
    refl
filter_acked number n (suc i) k (p ∷ ps) e h =
    rw (
      filter-append (is_other n k) (sends number (lacking p)) (sends_of lacking (suc number) ps),
      filter_all-sends (is_other n k) number (lacking p) (λ j. earlier_entry n k number j (omega arith)),
      filter_acked (suc number) n i k ps (omega arith) (omega arith),
    )
    refl

-- those to members are the sends to the members that lack
pub filter_members : (members : List ℕ) (number : ℕ) (ps : List Pending) → filter (is_to members) (sends_of lacking number ps) ≡ sends_of (lacking_among members) number ps
unfolding sends_of
filter_members members number [] = refl
filter_members members number (p ∷ ps) =
    rw (
      filter-append (is_to members) (sends number (lacking p)) (sends_of lacking (suc number) ps),
      filter_to-sends members number (lacking p),
      meet-apart p.followers p.acks members,
      filter_members members (suc number) ps,
    )
    refl

-- an entry more at the end
pub sends_of-append : (nodes : Pending → List ℕ) (number n : ℕ) (ps : List Pending) (p : Pending) → n ≡ number + length ps → sends_of nodes number (ps ++ p ∷ []) ≡ sends_of nodes number ps ++ sends n (nodes p)
unfolding sends_of
sends_of-append nodes number n [] p e = let same : n ≡ number = omega arith in rw same (append-nil (sends number (nodes p)))
sends_of-append nodes number n (q ∷ ps) p e =
    rw (sends_of-append nodes (suc number) n ps p (omega arith)) (sym (append_assoc (sends number (nodes q)) (sends_of nodes (suc number) ps) (sends n (nodes p))))

-- ---- how many sends are due

-- if each entry has at most 8 followers, then there are at most 8 sends for each entry
pub length-sends_of : (number : ℕ) (ps : List Pending) → HaveFewFollowers ps → length (sends_of lacking number ps) ≤ 8 * length ps
unfolding sends_of HaveFewFollowers
length-sends_of number [] h = omega arith
length-sends_of number (p ∷ ps) h =
    omega (arith, length-append (sends number (lacking p)) (sends_of lacking (suc number) ps), length-sends number (lacking p), length-apart p.followers p.acks, h.0, length-sends_of (suc number) ps h.1)

-- a set of nodes has at most 8 of them
pub few_nodes : (ns : List ℕ) → IsNodeSet ns → length ns ≤ 8
few_nodes ns h = omega (arith, length-below 0 8 ns h.rising h.below (omega arith))

-- what a byte shows has at most 8 nodes
pub few_shown : (ns : List ℕ) → nodes_of (bits_of ns) ≡ ns → length ns ≤ 8
few_shown ns shown = few_nodes ns (rw (← shown) (IsNodeSet-nodes_of (bits_of ns)))

-- if an entry with at most 8 followers comes behind such entries, then all have at most 8
pub HaveFewFollowers-append : (ps : List Pending) (p : Pending) → HaveFewFollowers ps → length p.followers ≤ 8 → HaveFewFollowers (ps ++ p ∷ [])
unfolding HaveFewFollowers
HaveFewFollowers-append [] p h k = (k, tt)
HaveFewFollowers-append (q ∷ ps) p h k = (h.0, HaveFewFollowers-append ps p h.1 k)

-- if all entries have at most 8 followers, then so have those behind the head
pub HaveFewFollowers-rest : (ps : List Pending) → HaveFewFollowers ps → HaveFewFollowers (drop 1 ps)
unfolding HaveFewFollowers
HaveFewFollowers-rest [] h = h
HaveFewFollowers-rest (p ∷ ps) h = h.1

-- if all entries have at most 8 followers, then so they have after one is acknowledged once more
pub HaveFewFollowers-acked : (ps : List Pending) (i k : ℕ) → i < length ps → HaveFewFollowers ps → HaveFewFollowers (put no_pending ps i (acked_pending (nth no_pending ps i) k))
unfolding HaveFewFollowers nth put
HaveFewFollowers-acked [] i k h f = absurd (omega arith)
HaveFewFollowers-acked (p ∷ ps) zero k h f = f
HaveFewFollowers-acked (p ∷ ps) (suc i) k h f = (f.0, HaveFewFollowers-acked ps i k (omega arith) f.1)
