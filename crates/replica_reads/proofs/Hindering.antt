-- What hinders a read.
use Rattle.std.proofs.Common.{ℕ, ◌≡◌, ◌<◌, ◌≤◌, ◌+◌, true, false, List, Option, Some, None, length, drop, refl, sym, ap, ◌∙◌}
use Rattle.std.specs.Prelude.{is_some}
use Rattle.std.proofs.Math.ListN.{get_or}
use Rattle.std.proofs.lemmas.List.{drop_all}
use Rattle.zeus_packet.specs.declared.letter.State.{State}
use Rattle.zeus_packet.specs.declared.letter.State.TheVariants.{Valid, Invalid, Write}
use Rattle.zeus_txn.specs.Ops.{named}
use Rattle.zeus_txn.specs.declared.ops.Op.{Op}
use Rattle.zeus_txn.specs.declared.reply.Reply.{Reply}
use Rattle.zeus_model.specs.declared.state.Copy.{Copy}
use Rattle.zeus_model.specs.Local.{Hindrance, hindrance, hindrance_at, unready}
use Rattle.zeus_model.specs.Ownership.{not_valid}
use Rattle.zeus_model.specs.State.{Node}
use Rattle.zeus_model.specs.Tables.{first_of, nth, or_else}
use Rattle.zeus_model.specs.TableLaws.{first_of-at}
use Rattle.replica_reads.specs.declared.reads.Hindrance.{Hindrance as Found}
use Rattle.replica_reads.specs.declared.reads.Hindrance.TheVariants.{Missing, Unready}
use Rattle.replica_reads.specs.declared.reads.ReadTry.TheVariants.{Read}
use Rattle.replica_reads.specs.Reads.{hindrance_among, read_told, told_hindrance}

-- ---- at one object

-- if there is no copy, then that hinders the read
pub hindered-missing : (x : ℕ) (o : Option Copy) → None ≡ o → told_hindrance (Some (Missing x)) ≡ hindrance_at x o
unfolding told_hindrance hindrance_at
hindered-missing x o e = rw (← e) refl

-- if the copy is valid, then it does not hinder the read
pub hindered-valid : (x : ℕ) (o : Option Copy) (c : Copy) → Some c ≡ o → c.state ≡ Valid → told_hindrance None ≡ hindrance_at x o
unfolding told_hindrance hindrance_at unready not_valid
hindered-valid x o c e v = rw (← e, v) refl

unready-other : (x : ℕ) (s : State) → (s ≡ Valid → ⊥) → told_hindrance (Some (Unready x s)) ≡ unready x (not_valid s)
unfolding told_hindrance unready not_valid
unready-other x Valid h = absurd (h refl)
unready-other x Invalid h = refl
unready-other x Write h = refl

-- if the copy is not valid, then its state hinders the read
pub hindered-unready : (x : ℕ) (o : Option Copy) (c : Copy) → Some c ≡ o → (c.state ≡ Valid → ⊥) → told_hindrance (Some (Unready x c.state)) ≡ hindrance_at x o
unfolding hindrance_at
hindered-unready x o c e h = rw (← e) (unready-other x c.state h)

-- ---- the first that hinders

told_some : (o : Option Found) (b : Option Hindrance) → is_some o ≡ true → or_else (told_hindrance o) b ≡ told_hindrance o
unfolding told_hindrance or_else
told_some None b e = cc
told_some (Some (Missing x)) b e = refl
told_some (Some (Unready x s)) b e = refl

told_none : (o : Option Found) (b : Option Hindrance) → is_some o ≡ false → or_else (told_hindrance o) b ≡ b
unfolding told_hindrance or_else
told_none None b e = refl
told_none (Some (Missing x)) b e = cc
told_none (Some (Unready x s)) b e = cc

-- if the object at an index hinders, then that is what hinders the list from there
pub first_found : (f : ℕ → Option Hindrance) (xs : List ℕ) (i x : ℕ) (o : Option Found) → i < length xs → x ≡ get_or xs i x → told_hindrance o ≡ f x → is_some o ≡ true → told_hindrance o ≡ first_of f (drop i xs)
first_found f xs i x o h e t s =
    sym (told_some o _ s) ∙ ap (λ (g : Option Hindrance). or_else g (first_of f (drop (i + 1) xs))) t ∙ sym (first_of-at f xs i x h e)

-- if the object at an index does not hinder, then what hinders the list behind it hinders the list from there
pub first_later : (f : ℕ → Option Hindrance) (xs : List ℕ) (i x : ℕ) (o : Option Found) → i < length xs → x ≡ get_or xs i x → told_hindrance o ≡ f x → is_some o ≡ false → first_of f (drop (i + 1) xs) ≡ first_of f (drop i xs)
first_later f xs i x o h e t s =
    sym (told_none o _ s) ∙ ap (λ (g : Option Hindrance). or_else g (first_of f (drop (i + 1) xs))) t ∙ sym (first_of-at f xs i x h e)

-- past the end of the named objects nothing hinders
pub first_none : (f : ℕ → Option Hindrance) (xs : List ℕ) (i : ℕ) → length xs ≤ i → told_hindrance None ≡ first_of f (drop i xs)
unfolding first_of told_hindrance
first_none f xs i h = rw (drop_all i xs h) refl

-- what hinders a read is what the named objects give, looked at in order
pub hindrance_whole : (copies : List (Option Copy)) (tx : List Op) → first_of (λ y. hindrance_at y (nth None copies y)) (named tx) ≡ hindrance_among copies tx
unfolding hindrance_among
hindrance_whole copies tx = refl

-- ---- at a node with these copies

-- if a node has these copies, then what hinders its read is what hinders a read of the copies
pub hindrance-at : (n : Node) (copies : List (Option Copy)) (tx : List Op) → n.copies ≡ copies → hindrance n tx ≡ hindrance_among copies tx
unfolding hindrance hindrance_among
hindrance-at n copies tx e = rw (← e) refl

-- if what was found is what hinders among the copies, then the node tells it as the rules do
pub told : (n : Node) (copies : List (Option Copy)) (tx : List Op) (o : Option Found) (reply : Reply) → n.copies ≡ copies → told_hindrance o ≡ hindrance_among copies tx → read_told (told_hindrance o) reply ≡ read_told (hindrance n tx) reply
told n copies tx o reply e t = ap (λ (h : Option Hindrance). read_told h reply) (t ∙ sym (hindrance-at n copies tx e))

-- if nothing hinders among the copies, then the read is answered with its reply
pub told_read : (n : Node) (copies : List (Option Copy)) (tx : List Op) (reply : Reply) → n.copies ≡ copies → told_hindrance None ≡ hindrance_among copies tx → Read reply ≡ read_told (hindrance n tx) reply
unfolding told_hindrance read_told
told_read n copies tx reply e t = told n copies tx None reply e t
