-- The letters of one sender on its links, in order.
use Rattle.std.specs.Prelude.{ℕ, suc, ◌≡◌, ◌≢◌, ◌-◌, ◌<◌, ◌≤◌, ◌==◌, List, [], ◌∷◌, ◌++◌, Some}
use Rattle.std.proofs.Common.{arith, refl, sym, ap, ◌∙◌, inl, inr, append_assoc, append-nil, eq-eqb, subst}
use Rattle.std.proofs.lemmas.Bool.{cases_eq, cond_both, ne_eqb}
use Rattle.zeus_base.specs.declared.config.Config.{Config}
use Rattle.zeus_packet.specs.declared.letter.Letter.{Letter}
use Rattle.zeus_txn.specs.declared.tx.TxDecl.{TxDecl}
use Rattle.zeus_model.specs.In.{In, here, there}
use Rattle.zeus_model.specs.World.{link, posted, all_posted, nth_letter}
use Rattle.zeus_model.specs.InLaws.{In-append}
use Rattle.machine_moves.proofs.Lists.{In-nothing}
use Rattle.machine_moves.proofs.Links.{link-posted_same, link-posted_other}
use Rattle.live_model.specs.Items.{Stamped}
use Rattle.live_model.specs.Cell.{CellEvent, Core, Posted, posts_to, posts_from, numbered, after, core_from, does}
use Rattle.live_replay.proofs.Senders.{AllFrom}

unfoldable pub letters : List Posted → List Letter
letters [] = []
letters (p ∷ ps) = p.letter ∷ letters ps

-- the letters of two lists of posts put together are those of the first and then those of the second
pub letters-append : (xs ys : List Posted) → letters (xs ++ ys) ≡ letters xs ++ letters ys
unfolding letters
letters-append [] ys = refl
letters-append (x ∷ xs) ys = ap (λ (ls : List Letter). x.letter ∷ ls) (letters-append xs ys)

-- ---- the links after a node has sent letters

-- the letters of one event to a node
abbrev ToReceiver : List (List (List Letter)) → Letter → List Letter → ℕ → ℕ → ℕ → Type 0
ToReceiver links l ls clock me receiver =
    link (posted links l) me receiver ++ letters (posts_to receiver clock ls) ≡ link links me receiver ++ letters (posts_to receiver clock (l ∷ ls))

posted-same : (links : List (List (List Letter))) (l : Letter) (ls : List Letter) (clock : ℕ) → ToReceiver links l ls clock l.from l.to
unfolding posts_to letters
posted-same links l ls clock = rw (link-posted_same links l, eq-eqb l.to l.to refl, append_assoc) refl

posted-not_to : (links : List (List (List Letter))) (l : Letter) (ls : List Letter) (clock receiver : ℕ) → receiver ≢ l.to → ToReceiver links l ls clock l.from receiver
unfolding posts_to letters
posted-not_to links l ls clock receiver other =
    rw (link-posted_other links l l.from receiver (inr other), ne_eqb l.to receiver (λ is. other (sym is))) refl

posted-own : (links : List (List (List Letter))) (l : Letter) (me receiver clock : ℕ) (ls : List Letter) → l.from ≡ me → ToReceiver links l ls clock me receiver
posted-own links l me receiver clock ls from =
    subst (λ (n : ℕ). ToReceiver links l ls clock n receiver) from
    (elim (cases_eq receiver l.to) [
      | inl same ↦ subst (λ (r : ℕ). ToReceiver links l ls clock l.from r) (sym same) (posted-same links l ls clock)
      | inr other ↦ posted-not_to links l ls clock receiver other
    ])

none-posted : (receiver clock : ℕ) (ls : List Letter) → ls ≡ ls ++ letters (posts_to receiver clock [])
unfolding posts_to letters
none-posted receiver clock ls = sym (append-nil ls)

-- posting a node's letters puts those to a receiver behind the letters of that link
pub all_posted-own : (links : List (List (List Letter))) (ls : List Letter) (me receiver clock : ℕ) → AllFrom me ls
    → link (all_posted links ls) me receiver ≡ link links me receiver ++ letters (posts_to receiver clock ls)
unfolding all_posted AllFrom
all_posted-own links [] me receiver clock h = none-posted receiver clock (link links me receiver)
all_posted-own links (l ∷ ls) me receiver clock h =
    all_posted-own (posted links l) ls me receiver clock h.1 ∙ posted-own links l me receiver clock ls h.0

-- posting a node's letters leaves the links of each other sender
pub all_posted-other : (links : List (List (List Letter))) (ls : List Letter) (me sender receiver : ℕ) → AllFrom me ls → sender ≢ me
    → link (all_posted links ls) sender receiver ≡ link links sender receiver
unfolding all_posted AllFrom
all_posted-other links [] me sender receiver h other = refl
all_posted-other links (l ∷ ls) me sender receiver h other =
    all_posted-other (posted links l) ls me sender receiver h.1 other ∙ link-posted_other links l sender receiver (inl (λ is. other (is ∙ h.0)))

-- ---- a packet that an earlier event sent

-- each of the posts has at least this clock
abbrev pub PostsFrom : ℕ → List Posted → Type 0
PostsFrom bound ps = (p : Posted) → In p ps → bound ≤ p.clock

numbered-clock : (k bound : ℕ) (ps : List Posted) (p : Stamped) → PostsFrom bound ps → In p (numbered k ps) → bound ≤ p.clock
unfolding numbered
numbered-clock k bound [] p from is = In-nothing p is
numbered-clock k bound (q ∷ qs) p from (here _ _ e) = let low = from q (here q qs refl) in let same : p.clock ≡ q.clock = ap (λ (x : Stamped). x.clock) e in omega arith
numbered-clock k bound (q ∷ qs) p from (there _ _ is) = numbered-clock (suc k) bound qs p (λ r at. from r (there q qs at)) is

-- its letter stands at its number, whatever is sent later
pub numbered-early : (k bound : ℕ) (ps qs : List Posted) (p : Stamped) → PostsFrom bound qs → p.clock < bound → In p (numbered k (ps ++ qs))
    → (k ≤ p.number) × (nth_letter (letters ps) (p.number - k) ≡ Some p.letter)
unfolding numbered letters nth_letter
numbered-early k bound [] qs p from less is = let low : bound ≤ p.clock = numbered-clock k bound qs p from is in absurd (omega arith)
numbered-early k bound (x ∷ xs) qs p from less (here _ _ e) =
    let number : p.number ≡ k = ap (λ (y : Stamped). y.number) e in
    let zero_of : p.number - k ≡ 0 = omega arith in
    (omega arith, rw zero_of (ap (λ (y : Stamped). Some y.letter) (sym e)))
numbered-early k bound (x ∷ xs) qs p from less (there _ _ is) =
    let h = numbered-early (suc k) bound xs qs p from less is in
    let low : suc k ≤ p.number = h.0 in
    let one_more : p.number - k ≡ suc (p.number - suc k) = omega arith in
    (omega arith, rw one_more h.1)

-- ---- the posts of events

-- the posts of events put together are those of the earlier ones and then those of the later ones
pub posts_from-append : (me : ℕ) (c : Config) (txs : List TxDecl) (receiver : ℕ) (core : Core) (xs ys : List CellEvent)
    → posts_from me c txs receiver core (xs ++ ys) ≡ posts_from me c txs receiver core xs ++ posts_from me c txs receiver (core_from me c txs core xs) ys
unfolding posts_from core_from
posts_from-append me c txs receiver core [] ys = refl
posts_from-append me c txs receiver core (x ∷ xs) ys =
    ap (λ (ps : List Posted). posts_to receiver x.clock (does txs core.node x.deed).sent ++ ps) (posts_from-append me c txs receiver (after me c txs core x) xs ys)
    ∙ sym (append_assoc (posts_to receiver x.clock (does txs core.node x.deed).sent) _ _)

first-clock : (receiver clock : ℕ) (l : Letter) (ls : List Letter) (p : Posted) → (In p (posts_to receiver clock ls) → p.clock ≡ clock)
    → In p (record { clock = clock; letter = l } ∷ posts_to receiver clock ls) → p.clock ≡ clock
first-clock receiver clock l ls p rest (here _ _ e) = ap (λ (x : Posted). x.clock) e
first-clock receiver clock l ls p rest (there _ _ at) = rest at

posts_to-clock : (receiver clock : ℕ) (ls : List Letter) (p : Posted) → In p (posts_to receiver clock ls) → p.clock ≡ clock
unfolding posts_to
posts_to-clock receiver clock [] p is = In-nothing p is
posts_to-clock receiver clock (l ∷ ls) p is =
    (cond_both (l.to == receiver) (record { clock = clock; letter = l } ∷ posts_to receiver clock ls) (posts_to receiver clock ls)
    (λ (ps : List Posted). In p ps → p.clock ≡ clock)
    (λ _. first-clock receiver clock l ls p (posts_to-clock receiver clock ls p)) (λ _. posts_to-clock receiver clock ls p)) is

-- no event of the list is earlier than the bound
unfoldable pub NoneBefore : ℕ → List CellEvent → Type 0
NoneBefore bound [] = Unit {0}
NoneBefore bound (e ∷ es) = (bound ≤ e.clock) × NoneBefore bound es

-- if no event is before a bound, then no post is
pub posts_from-late : (me : ℕ) (c : Config) (txs : List TxDecl) (receiver bound : ℕ) (core : Core) (es : List CellEvent) → NoneBefore bound es → PostsFrom bound (posts_from me c txs receiver core es)
unfolding posts_from NoneBefore
posts_from-late me c txs receiver bound core [] none p is = In-nothing p is
posts_from-late me c txs receiver bound core (e ∷ es) none p is =
    let low = none.0 in
    elim (In-append p (posts_to receiver e.clock (does txs core.node e.deed).sent) _ is) [
      | inl first ↦ let at : p.clock ≡ e.clock = posts_to-clock receiver e.clock _ p first in omega arith
      | inr later ↦ posts_from-late me c txs receiver bound (after me c txs core e) es none.1 p later
    ]
