-- A sound report is a serial history.
use Rattle.std.proofs.Common.{◌≡◌, ℕ, zero, suc, ◌⊎◌, inl, inr, List, [], length, refl, ◌∙◌}
use Rattle.std.specs.Prelude.{Result, Ok, Err, replicate}
use Rattle.zeus_base.specs.Tables.{nth}
use Rattle.zeus_model.specs.Scripts.{FitsScript}
use Rattle.zeus_model.specs.declared.script.Script.{Script}
use Rattle.script_lang.specs.Cut.{cut}
use Rattle.zeus_audit.specs.declared.stage.Mark.TheVariants as marks
use Rattle.zeus_audit.specs.declared.verdict.Verdict.TheVariants as verdicts
use Rattle.zeus_audit.specs.Auditing.{Failing, lines_taken, verdict_of, audited}
use Rattle.zeus_audit.specs.Events.{Event, Acked}
use Rattle.zeus_audit.specs.Progress.{State, start}
use Rattle.zeus_audit.specs.Serial.{Among, HasPoint, IsSerialReport}
use Rattle.zeus_audit.proofs.Fits.{fits_start}
use Rattle.zeus_audit.proofs.Telling.{Shows, ShowAll, Tale, telling}
use Rattle.zeus_audit.proofs.Tells.{is_closed}

new_mark : (n k : ℕ) → nth marks.New (replicate n marks.New) k ≡ marks.New
unfolding nth
new_mark zero k = refl
new_mark (suc n) zero = refl
new_mark (suc n) (suc k) = new_mark n k

none_among : (e : Event) → Among [] e → ⊥
unfolding Among
none_among e x = x

no_point : (k : ℕ) → HasPoint [] k → ⊥
unfolding HasPoint Among
no_point k h = h.1

shows_start : (s : Script) → ShowAll (start s).marks []
unfolding start Shows
shows_start s k = rw (new_mark (length s.txs) k) (no_point k, none_among (Acked k))

sound_cases : (r : Result State Failing) → verdict_of r ≡ verdicts.Sound → (last : State) × (r ≡ Ok last)
unfolding verdict_of
sound_cases (Ok last) is = (last, refl)
sound_cases (Err f) is = absurd cc

only_later : {A B : Type 0} → (A → ⊥) → A ⊎ B → B
only_later never (inl a) = absurd (never a)
only_later never (inr b) = b

serial_from : (s : Script) (text : List ℕ) (last : State) → Tale s (start s) [] (cut 10 text) last → IsSerialReport s text
unfolding start is_closed
serial_from s text last t =
    record {
      lines = t.lines;
      events = t.events;
      ended = t.ended;
      says = t.says;
      serial = record {
        known = t.known;
        order = t.order;
        replies = t.replies;
        history = λ ks x. t.history ks x ∙ t.points;
        printed = rw t.points at (t.printed refl);
        acked = λ k x. only_later (none_among (Acked k)) (t.acked k x);
        passed = λ k x. only_later (no_point k) (t.passed k x);
        copies = λ x n c y. rw t.map at (t.copies x n c y);
      };
    }

-- what a sound report is
pub sound_serial : (s : Script) (text : List ℕ) → FitsScript s → audited s text ≡ verdicts.Sound → IsSerialReport s text
unfolding audited
sound_serial s text fits sound =
    let found = sound_cases (lines_taken s (start s) 1 (cut 10 text)) sound in
    serial_from s text found.0 (telling s fits (cut 10 text) (start s) 1 [] found.0 (fits_start s) (shows_start s) found.1)
