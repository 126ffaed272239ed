-- A change of the book writes just what it tells, and writes nothing twice.
use Rattle.std.specs.Prelude.{ℕ, ◌≡◌, ◌+◌, ◌==◌, List, [], ◌∷◌, ◌++◌, Option, Some, None}
use Rattle.std.proofs.Common.{arith, refl, ap, sym, ◌∙◌, inl, inr, subst}
use Rattle.std.proofs.lemmas.Bool.{cases_Bool}
use Rattle.std.proofs.lemmas.List.{append-nil, append_assoc}
use Rattle.zeus_txn.specs.declared.reply.Reply.{Reply}
use Rattle.zeus_model.specs.In.{In}
use Rattle.zeus_model.specs.Book.{Book, BookChange, EntryId, Point, TxRecord, record_of, book_only, changes_joined}
use Rattle.zeus_model.specs.InLaws.{In-append}
use Rattle.soundness.specs.Telling.{how_often, ids_of}
use Rattle.soundness.proofs.Written.{Writes, leaves, Writes-none}

-- ---- lists of transactions

-- the transactions of two lists of points put together are those of the first and then those of the second
pub ids_of-append : (ps qs : List Point) → ids_of (ps ++ qs) ≡ ids_of ps ++ ids_of qs
unfolding ids_of
ids_of-append [] qs = refl
ids_of-append (p ∷ ps) qs = ap (λ (l : List ℕ). p.id ∷ l) (ids_of-append ps qs)

-- a transaction stands in two lists put together as often as in both
pub how_often-append : (id : ℕ) (js ks : List ℕ) → how_often id (js ++ ks) ≡ how_often id js + how_often id ks
unfolding how_often
how_often-append id [] ks = omega arith
how_often-append id (j ∷ js) ks = elim (cases_Bool (j == id)) [
  | inl same ↦ let more = how_often-append id js ks in rw same (omega arith)
  | inr other ↦ rw other (how_often-append id js ks)
]

-- ---- what happens to a record

-- how often a transaction is told at the step, and what its record has of it before and afterwards
pub data Notes (step : ℕ) : ℕ → Option ℕ → Option ℕ → Type 0 where
  keeps : (o : Option ℕ) → Notes step 0 o o
  notes : Notes step 1 None (Some step)

-- what an answer says of a transaction
pub record Said : Type 0 where
  pub begun : Option ℕ
  pub entry : Option EntryId
  pub reply : Option Reply

abbrev pub nothing_said : ℕ → Said
nothing_said id = record { begun = None; entry = None; reply = None }

-- the record of a transaction gets what is said and told of it
pub record IsRewritten (step : ℕ) (said : Said) (pointed acks : ℕ) (old new : TxRecord) : Type 0 where
  pub begun : Writes said.begun old.begun new.begun
  pub entry : Writes said.entry old.entry new.entry
  pub reply : Writes said.reply old.reply new.reply
  pub point : Notes step pointed old.point new.point
  pub acked : Notes step acks old.acked new.acked

-- a change writes what it tells, and what was said
pub record IsChange (b : Book) (c : BookChange) (said : ℕ → Said) : Type 0 where
  pub counts : c.book.steps ≡ b.steps
  -- the points behind those of the history
  pub added : List Point
  pub points : c.book.points ≡ b.points ++ added
  pub told : ids_of added ≡ c.points
  pub replies : (p : Point) → In p added → (record_of c.book p.id).reply ≡ Some p.reply
  pub records : (id : ℕ) → IsRewritten b.steps (said id) (how_often id c.points) (how_often id c.acked) (record_of b id) (record_of c.book id)

-- ---- one after another

Notes-then : (step j k : ℕ) (old mid new : Option ℕ) → Notes step j old mid → Notes step k mid new → Notes step (j + k) old new
Notes-then step j k old mid new (keeps _) second = let none : 0 + k ≡ k = omega arith in rw none second
Notes-then step j k old mid new notes (keeps _) = notes

Writes-then : {A : Type 0} (t old mid new : Option A) → Writes t old mid → Writes None mid new → Writes t old new
Writes-then {A = A} t old mid new first second = subst (λ (o : Option A). Writes t old o) (sym (Writes-none mid new second)) first

IsRewritten-then : (step : ℕ) (said : Said) (p k q l : ℕ) (old mid new : TxRecord) → IsRewritten step said p k old mid
    → IsRewritten step record { begun = None; entry = None; reply = None } q l mid new → IsRewritten step said (p + q) (k + l) old new
IsRewritten-then step said p k q l old mid new a b = record {
  begun = Writes-then said.begun old.begun mid.begun new.begun a.begun b.begun;
  entry = Writes-then said.entry old.entry mid.entry new.entry a.entry b.entry;
  reply = Writes-then said.reply old.reply mid.reply new.reply a.reply b.reply;
  point = Notes-then step p q old.point mid.point new.point a.point b.point;
  acked = Notes-then step k l old.acked mid.acked new.acked a.acked b.acked;
}

-- a reply that was there stays
reply_stays : (b : Book) (c : BookChange) (id : ℕ) (reply : Reply) → IsChange b c nothing_said → (record_of b id).reply ≡ Some reply → (record_of c.book id).reply ≡ Some reply
reply_stays b c id reply h is = let r = h.records id in Writes-none (record_of b id).reply (record_of c.book id).reply r.reply ∙ is

-- a change and one that only lets entries pass
pub IsChange-then : (b : Book) (c d : BookChange) (said : ℕ → Said) → IsChange b c said → IsChange c.book d nothing_said → IsChange b (changes_joined c d) said
IsChange-then b c d said first second = record {
  counts = second.counts ∙ first.counts;
  added = first.added ++ second.added;
  points = second.points ∙ ap (λ (l : List Point). l ++ second.added) first.points ∙ append_assoc b.points first.added second.added;
  told = ids_of-append first.added second.added ∙ ap (λ (l : List ℕ). l ++ ids_of second.added) first.told ∙ ap (λ (l : List ℕ). c.points ++ l) second.told;
  replies = λ p i. elim (In-append p first.added second.added i) [
    | inl early ↦ reply_stays c.book d p.id p.reply second (first.replies p early)
    | inr late ↦ second.replies p late
  ];
  records = λ id.
      let later : IsRewritten b.steps (nothing_said id) (how_often id d.points) (how_often id d.acked) (record_of c.book id) (record_of d.book id) = rw first.counts at (second.records id) in
      rw (how_often-append id c.points d.points, how_often-append id c.acked d.acked)
      (IsRewritten-then b.steps (said id) (how_often id c.points) (how_often id c.acked) (how_often id d.points) (how_often id d.acked)
      (record_of b id) (record_of c.book id) (record_of d.book id) (first.records id) later);
}

-- ---- no change

-- a record that stays is written by a step that says and tells nothing of it
pub IsRewritten-same : (step : ℕ) (r : TxRecord) → IsRewritten step record { begun = None; entry = None; reply = None } 0 0 r r
IsRewritten-same step r = record { begun = leaves r.begun; entry = leaves r.entry; reply = leaves r.reply; point = keeps r.point; acked = keeps r.acked }

pub IsChange-book_only : (b : Book) → IsChange b (book_only b) nothing_said
unfolding ids_of how_often
IsChange-book_only b = record {
  counts = refl;
  added = [];
  points = sym (append-nil b.points);
  told = refl;
  replies = λ p i. elim i [ ];
  records = λ id. IsRewritten-same b.steps (record_of b id);
}
