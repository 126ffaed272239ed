-- What a cell's book and the world's book have of the same transactions.
use Rattle.std.specs.Prelude.{ℕ, suc, ◌≡◌, ◌≢◌, ◌+◌, Bool, true, false, List, [], ◌∷◌, Option, Some, None, if◌then◌else◌}
use Rattle.std.proofs.Common.{arith, refl, sym, ap, ◌∙◌, inl, inr, subst}
use Rattle.std.proofs.lemmas.Bool.{cases_eq, eqb-true}
use Rattle.zeus_base.specs.Order.{same_stream}
use Rattle.zeus_base.specs.declared.order.Stream.{Stream}
use Rattle.zeus_base.specs.TableLaws.{nth-put_same}
use Rattle.zeus_txn.specs.declared.tx.TxDecl.{TxDecl}
use Rattle.zeus_model.specs.Tables.{nth, put}
use Rattle.zeus_model.specs.Book.{EntryId, TxRecord, no_record, is_entry, tx_from}
use Rattle.machine_moves.proofs.Lists.{nth-put_other}
use Rattle.live_model.specs.Cell.{declared}
use Rattle.live_replay.specs.Replayed.{SameRun}

-- a record is the same run as itself
pub same-refl : (r : TxRecord) → SameRun r r
same-refl r = record { begun = refl; entry = refl; reply = refl; acked = refl; refused = refl }

-- the entry, if there is one, is of a stream of this node
abbrev pub EntryOf : ℕ → TxRecord → Type 0
EntryOf n r = (e : EntryId) → r.entry ≡ Some e → e.stream.node ≡ n

-- the world's records and those of the cell: the same runs of the node's transactions; in the cell no entry of any other; in the
-- world the entries of each transaction's own node
pub record Agree (txs : List TxDecl) (me : ℕ) (bs qs : List TxRecord) : Type 0 where
  pub own : (k : ℕ) → (declared txs k).node ≡ me → SameRun (nth no_record bs k) (nth no_record qs k)
  pub others : (k : ℕ) → (declared txs k).node ≢ me → (nth no_record qs k).entry ≡ None
  pub entries : (k : ℕ) → EntryOf (declared txs k).node (nth no_record bs k)

-- ---- one record changes

-- what holds of the record at a place and of all others, holds after the change
at_put : (P : ℕ → TxRecord → Type 0) (rs : List TxRecord) (i : ℕ) (r : TxRecord) (k : ℕ) → P i r → P k (nth no_record rs k) → P k (nth no_record (put no_record rs i r) k)
at_put P rs i r k new old =
    elim (cases_eq k i) [
      | inl same ↦ subst (λ (j : ℕ). P j (nth no_record (put no_record rs i r) j)) (sym same) (subst (λ (x : TxRecord). P i x) (sym (nth-put_same no_record rs i r)) new)
      | inr other ↦ subst (λ (x : TxRecord). P k x) (sym (nth-put_other no_record rs i k r other)) old
    ]

-- in both, that of a transaction of the node
pub both-change : (txs : List TxDecl) (me : ℕ) (bs qs : List TxRecord) (i : ℕ) (f g : TxRecord → TxRecord) → Agree txs me bs qs → (declared txs i).node ≡ me
    → ((r q : TxRecord) → SameRun r q → SameRun (f r) (g q)) → ((r : TxRecord) → EntryOf me r → EntryOf me (f r))
    → Agree txs me (put no_record bs i (f (nth no_record bs i))) (put no_record qs i (g (nth no_record qs i)))
both-change txs me bs qs i f g a own same entry =
    record {
      own = λ k mine. elim (cases_eq k i) [
        | inl is ↦ rw (is, nth-put_same no_record bs i (f (nth no_record bs i)), nth-put_same no_record qs i (g (nth no_record qs i))) (same _ _ (a.own i own))
        | inr other ↦ rw (nth-put_other no_record bs i k (f (nth no_record bs i)) other, nth-put_other no_record qs i k (g (nth no_record qs i)) other) (a.own k mine)
      ];
      others = λ k ne. rw (nth-put_other no_record qs i k (g (nth no_record qs i)) (λ is. ne (ap (λ (j : ℕ). (declared txs j).node) is ∙ own))) (a.others k ne);
      entries = λ k. at_put (λ j r. EntryOf (declared txs j).node r) bs i (f (nth no_record bs i)) k
          (subst (λ (n : ℕ). EntryOf n (f (nth no_record bs i))) (sym own) (entry _ (subst (λ (n : ℕ). EntryOf n (nth no_record bs i)) own (a.entries i)))) (a.entries k);
    }

-- in the world alone, where the node's transactions keep their runs
pub world-change : (txs : List TxDecl) (me : ℕ) (bs qs : List TxRecord) (i : ℕ) (r : TxRecord) → Agree txs me bs qs
    → ((declared txs i).node ≡ me → SameRun r (nth no_record bs i)) → EntryOf (declared txs i).node r → Agree txs me (put no_record bs i r) qs
world-change txs me bs qs i r a same entry =
    record {
      own = λ k mine. elim (cases_eq k i) [
        | inl is ↦ rw (is, nth-put_same no_record bs i r) (same_then (same (ap (λ (j : ℕ). (declared txs j).node) (sym is) ∙ mine)) (a.own i (ap (λ (j : ℕ). (declared txs j).node) (sym is) ∙ mine)))
        | inr other ↦ rw (nth-put_other no_record bs i k r other) (a.own k mine)
      ];
      others = a.others;
      entries = λ k. at_put (λ j s. EntryOf (declared txs j).node s) bs i r k entry (a.entries k);
    }
  where
    same_then : {p q s : TxRecord} → SameRun p q → SameRun q s → SameRun p s
    same_then h g = record { begun = h.begun ∙ g.begun; entry = h.entry ∙ g.entry; reply = h.reply ∙ g.reply; acked = h.acked ∙ g.acked; refused = h.refused ∙ g.refused }

-- in the cell alone, where nothing changes but the point
pub cell-change : (txs : List TxDecl) (me : ℕ) (bs qs : List TxRecord) (i : ℕ) (r : TxRecord) → Agree txs me bs qs
    → SameRun (nth no_record qs i) r → Agree txs me bs (put no_record qs i r)
cell-change txs me bs qs i r a same =
    record {
      own = λ k mine. elim (cases_eq k i) [
        | inl is ↦ let h = a.own k mine in
            rw (is, nth-put_same no_record qs i r)
            (let g : SameRun (nth no_record bs i) (nth no_record qs i) = rw is at h in
            record { begun = g.begun ∙ same.begun; entry = g.entry ∙ same.entry; reply = g.reply ∙ same.reply; acked = g.acked ∙ same.acked; refused = g.refused ∙ same.refused })
        | inr other ↦ rw (nth-put_other no_record qs i k r other) (a.own k mine)
      ];
      others = λ k ne. at_put (λ j s. (declared txs j).node ≢ me → s.entry ≡ None) qs i r k (λ other. sym same.entry ∙ a.others i other) (a.others k) ne;
      entries = a.entries;
    }

-- ---- the transaction of an entry

-- if two lists of records have the same entries, then an entry's transaction is found in both at the same place
pub tx_from-same : (s : Stream) (number first : ℕ) (rs qs : List TxRecord) → ((i : ℕ) → is_entry s number (nth no_record rs i).entry ≡ is_entry s number (nth no_record qs i).entry)
    → tx_from s number first rs ≡ tx_from s number first qs
unfolding tx_from nth is_entry
tx_from-same s number first [] [] h = refl
tx_from-same s number first [] (q ∷ qs) h = rw (sym (h 0)) (tx_from-same s number (suc first) [] qs (λ i. h (suc i)))
tx_from-same s number first (r ∷ rs) [] h = rw (h 0) (tx_from-same s number (suc first) rs [] (λ i. h (suc i)))
tx_from-same s number first (r ∷ rs) (q ∷ qs) h = rw (h 0, tx_from-same s number (suc first) rs qs (λ i. h (suc i))) refl

-- if no record has the entry, then its transaction is not found
pub tx_from-none : (s : Stream) (number first : ℕ) (rs : List TxRecord) → ((i : ℕ) → is_entry s number (nth no_record rs i).entry ≡ false) → tx_from s number first rs ≡ None
unfolding tx_from nth
tx_from-none s number first [] h = refl
tx_from-none s number first (r ∷ rs) h = rw (h 0) (tx_from-none s number (suc first) rs (λ i. h (suc i)))

-- the transaction that is found has the entry
pub record IsFound (s : Stream) (number first : ℕ) (rs : List TxRecord) (id : ℕ) : Type 0 where
  pub place : ℕ
  pub at : first + place ≡ id
  pub is : is_entry s number (nth no_record rs place).entry ≡ true

found_in : (b : Bool) (s : Stream) (number first : ℕ) (r : TxRecord) (rs : List TxRecord) (id : ℕ) → is_entry s number r.entry ≡ b
    → (tx_from s number (suc first) rs ≡ Some id → IsFound s number (suc first) rs id) → (if b then Some first else tx_from s number (suc first) rs) ≡ Some id → IsFound s number first (r ∷ rs) id
unfolding nth
found_in true s number first r rs id is later h = let same : first ≡ id = cc in record { place = 0; at = omega arith; is = is }
found_in false s number first r rs id is later h =
    let f = later h in let at = f.at in record { place = suc f.place; at = omega arith; is = f.is }

-- if an entry's transaction is found, then its record has the entry
pub tx_from-found : (s : Stream) (number first : ℕ) (rs : List TxRecord) (id : ℕ) → tx_from s number first rs ≡ Some id → IsFound s number first rs id
unfolding tx_from
tx_from-found s number first [] id h = absurd cc
tx_from-found s number first (r ∷ rs) id h = found_in (is_entry s number r.entry) s number first r rs id refl (tx_from-found s number (suc first) rs id) h

-- an entry's stream
pub is_entry-node : (s : Stream) (number : ℕ) (e : Option EntryId) → is_entry s number e ≡ true → (x : EntryId) × (e ≡ Some x) × (x.stream.node ≡ s.node)
unfolding is_entry same_stream
is_entry-node s number None h = absurd cc
is_entry-node s number (Some x) h = (x, refl, grind (arith, eqb-true x.stream.node s.node))
