-- What the lines tell fits the script, before the first line and behind each.
use Rattle.std.proofs.Common.{◌≡◌, ℕ, zero, suc, ◌<◌, ◌≤◌, ◌+◌, ◌*◌, inl, inr, List, [], ◌∷◌, length, refl, ◌∙◌, arith}
use Rattle.std.specs.Prelude.{Ok}
use Rattle.std.proofs.lemmas.Bool.{cases_lt}
use Rattle.std.proofs.lemmas.List.{length-replicate}
use Rattle.zeus_base.specs.Tables.{nth, put}
use Rattle.zeus_base.specs.TableLaws.{nth-past, length-put}
use Rattle.zeus_txn.specs.Map.{content}
use Rattle.zeus_txn.specs.declared.map.Versioned.{Versioned}
use Rattle.zeus_txn.specs.declared.tx.TxDecl.{TxDecl}
use Rattle.zeus_model.specs.Scripts.{FitsScript, FitsTx, FitTxs}
use Rattle.zeus_model.specs.World.{no_tx}
use Rattle.zeus_model.specs.declared.script.Script.{Script}
use Rattle.zeus_audit.specs.declared.stage.Mark.{Mark}
use Rattle.zeus_audit.specs.declared.stage.Mark.TheVariants as marks
use Rattle.zeus_audit.specs.Events.{Event, Quiet, Begun, Point, Acked, History, Stands, Copied}
use Rattle.zeus_audit.specs.Fitting.{Fits, has_point, count_of_points}
use Rattle.zeus_audit.specs.Progress.{State, ops_of, start}
use Rattle.zeus_audit.specs.Rules.{if_new, begun_marks, line_taken}
use Rattle.zeus_audit.proofs.Tells.{Allows, marks_after, map_after, line-tells}
use Rattle.zeus_audit.proofs.Versions.{applied_few, applied_least, start_few, start_least, one_if, count-put}

-- a transaction with another mark than that of a new one is one of the script
pub marked_within : (ms : List Mark) (k : ℕ) → (nth marks.New ms k ≡ marks.New → ⊥) → k < length ms
marked_within ms k marked =
    elim (cases_lt k (length ms)) [
      | inl within ↦ within
      | inr past ↦ absurd (marked (nth-past marks.New ms k past))
    ]

tx_at : (s : Script) (i : ℕ) (ts : List TxDecl) (k : ℕ) → FitTxs s.config i ts → k < length ts → FitsTx s.config (k + i) (nth no_tx ts k)
unfolding FitTxs nth
tx_at s i [] k fit h = absurd (omega arith)
tx_at s i (t ∷ ts) zero fit h = let e : 0 + i ≡ i = omega arith in rw e fit.0
tx_at s i (t ∷ ts) (suc k) fit h = let e : suc k + i ≡ k + suc i = omega arith in rw e (tx_at s (suc i) ts k fit.1 (omega arith))

-- a transaction of a script fits
pub tx_fits : (s : Script) (k : ℕ) → FitsScript s → k < length s.txs → FitsTx s.config k (nth no_tx s.txs k)
tx_fits s k fits h = let e : k + 0 ≡ k = omega arith in rw e at (tx_at s 0 s.txs k fits.txs.each h)

-- ---- marks

length-begun : (ms : List Mark) (k : ℕ) → k < length ms → length (begun_marks ms k) ≡ length ms
unfolding begun_marks if_new
length-begun ms k h = go (nth marks.New ms k)
  where
    go : (m : Mark) → length (if_new m (put marks.New ms k marks.Begun) ms) ≡ length ms
    go marks.New = length-put marks.New ms k marks.Begun h
    go marks.Begun = refl
    go marks.Passed = refl
    go marks.Acked = refl

count-begun : (ms : List Mark) (k : ℕ) → k < length ms → count_of_points (begun_marks ms k) ≡ count_of_points ms
unfolding begun_marks if_new has_point
count-begun ms k h = go (nth marks.New ms k) (count-put ms k marks.Begun h)
  where
    go : (m : Mark) → count_of_points (put marks.New ms k marks.Begun) + one_if (has_point m) ≡ count_of_points ms + 0 → count_of_points (if_new m (put marks.New ms k marks.Begun) ms) ≡ count_of_points ms
    go marks.New e = omega arith
    go marks.Begun e = refl
    go marks.Passed e = refl
    go marks.Acked e = refl

count-passed : (ms : List Mark) (k : ℕ) → k < length ms → nth marks.New ms k ≡ marks.Begun → count_of_points (put marks.New ms k marks.Passed) ≡ suc (count_of_points ms)
unfolding has_point
count-passed ms k h is = let e = rw is at (count-put ms k marks.Passed h) in omega arith

count-acked : (ms : List Mark) (k : ℕ) → k < length ms → nth marks.New ms k ≡ marks.Passed → count_of_points (put marks.New ms k marks.Acked) ≡ count_of_points ms
unfolding has_point
count-acked ms k h is = let e = rw is at (count-put ms k marks.Acked h) in omega arith

-- ---- the three facts behind an event

record Fitting (s : Script) (ms : List Mark) (m : List Versioned) : Type 0 where
  marks : length ms ≡ length s.txs
  objects : length s.config.objects ≤ length m
  versions : (x : ℕ) → (content m x).ver ≤ 16 * count_of_points ms

fitting_after : (s : Script) (st : State) (e : Event) → FitsScript s → Fits s st → Allows s st e → Fitting s (marks_after st.marks e) (map_after s st.map e)
unfolding marks_after map_after Allows
fitting_after s st Quiet fits h a = record { marks = h.marks; objects = h.objects; versions = h.versions }
fitting_after s st (History ks) fits h a = record { marks = h.marks; objects = h.objects; versions = h.versions }
fitting_after s st (Stands k t) fits h a = record { marks = h.marks; objects = h.objects; versions = h.versions }
fitting_after s st (Copied x n c) fits h a = record { marks = h.marks; objects = h.objects; versions = h.versions }
fitting_after s st (Begun k) fits h a =
    let within : k < length st.marks = rw h.marks a in
    record {
      marks = length-begun st.marks k within ∙ h.marks;
      objects = h.objects;
      versions = λ x. rw (count-begun st.marks k within) (h.versions x);
    }
fitting_after s st (Acked k) fits h a =
    let within : k < length st.marks = marked_within st.marks k (λ e. cc) in
    record {
      marks = length-put marks.New st.marks k marks.Acked within ∙ h.marks;
      objects = h.objects;
      versions = λ x. rw (count-acked st.marks k within a) (h.versions x);
    }
fitting_after s st (Point k reply) fits h a =
    let begun = a.0 in
    let within : k < length st.marks = marked_within st.marks k (λ e. cc) in
    let tx = tx_fits s k fits (omega (arith, h.marks)) in
    let least = applied_least st.map (ops_of s k) in
    let size = h.objects in
    record {
      marks = length-put marks.New st.marks k marks.Passed within ∙ h.marks;
      objects = omega arith;
      versions = λ x.
          let few = applied_few st.map (ops_of s k) (16 * count_of_points st.marks) x tx.tx.few h.versions in
          rw (count-passed st.marks k within begun) (omega arith);
    }

moved : (s : Script) (ms ms' : List Mark) (m m' : List Versioned) → ms' ≡ ms → m' ≡ m → Fitting s ms m → Fitting s ms' m'
moved s ms ms' m m' e f h = rw (e, f) h

-- what the lines tell still fits behind a line that is taken
pub fits_kept : (s : Script) (st : State) (line : List ℕ) (after : State) → FitsScript s → Fits s st → line_taken s st line ≡ Ok after → Fits s after
fits_kept s st line after fits h is =
    let told = line-tells s st line after fits is in
    let f = moved s (marks_after st.marks told.event) after.marks (map_after s st.map told.event) after.map told.marks told.map (fitting_after s st told.event fits h told.allowed) in
    record { marks = f.marks; objects = f.objects; versions = f.versions }

-- what is told before the first line fits the script
pub fits_start : (s : Script) → Fits s (start s)
unfolding start
fits_start s =
    record {
      marks = length-replicate (length s.txs) marks.New;
      objects = start_least s.config;
      versions = λ x. let few = start_few s.config x in omega arith;
    }
