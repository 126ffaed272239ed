-- The refusal of bytes that are no input of their command.
use Rattle.std.proofs.Common.{ℕ, ◌≡◌, ◌<◌, List, length, Option, inr, inl, refl}
use Rattle.std.specs.Prelude.{Result, Ok, Err, IfOk}
use Rattle.script_lang.specs.Reading.{fault_at}
use Rattle.zeus_base.specs.declared.step.NoMemory.{NoMemory}
use Rattle.zeus_io.specs.Bytes.{Takes}
use Rattle.zeus_io.specs.declared.status.Status.{Status}
use Rattle.zeus_io.specs.declared.status.Status.TheVariants.{Script as ScriptStatus}
use Rattle.zeus_model.specs.declared.fault.Kind.TheVariants.{Size}
use Rattle.zeus_model.specs.declared.fault.ScriptFault.{ScriptFault}
use Rattle.zeus_cli.specs.Inputs.{TakesAll, TakesInput, TakesMore}
use Rattle.zeus_cli.specs.Refusal.{IsRefused, fault_line}
use Rattle.zeus_cli.specs.declared.answer.Answer.{Answer}
use Rattle.zeus_cli.specs.declared.input.Input.{Input}
use Rattle.zeus_cli.specs.declared.input.Input.TheVariants.{Whole, TooLong}

-- the status and the text of a refusal
abbrev pub Refuses : {A : Type 0} → (List ℕ → Result A ScriptFault) → (List ℕ → Type 0) → ℕ → Option (List ℕ) → Option (List ℕ) → Status → List ℕ → Type 0
Refuses read IsNone most before after status text = (status ≡ ScriptStatus) × Takes before after (IsRefused read IsNone most after text)

-- all that the source had left is refused by its fault
pub refused : {A : Type 0} (read : List ℕ → Result A ScriptFault) (IsNone : List ℕ → Type 0) (most : ℕ) (bytes : List ℕ) (f : ScriptFault) → read bytes ≡ Err f → IsNone bytes
    → (r : Result Answer NoMemory) → IfOk r (λ a. a.status ≡ ScriptStatus) → IfOk r (λ a. a.text.items ≡ fault_line f)
    → (Q : Option (List ℕ) → Option (List ℕ) → Status → List ℕ → Type 0) → ((before after : Option (List ℕ)) (status : Status) (text : List ℕ) → Refuses read IsNone most before after status text → Q before after status text)
    → IfOk r (λ a. (before after : Option (List ℕ)) → TakesAll before after bytes → Q before after a.status a.text.items)
refused read IsNone most bytes f is none (Ok a) status line Q answers = λ before after all.
    answers before after a.status a.text.items (
      status,
      record {
        taken = bytes;
        from_front = all.from_front;
        holds = record { whole = inl all.to_end; none = none; line = record { fault = f; is_read = is; text_is = line } };
      },
    )
refused read IsNone most bytes f is none (Err e) status line Q answers = tt

-- more bytes than the command can take are refused by their number
pub refused_size : {A : Type 0} (read : List ℕ → Result A ScriptFault) (IsNone : List ℕ → Type 0) (most : ℕ) (before after : Option (List ℕ)) (input : Input) (status : Status) (text : List ℕ)
    → ((bytes : List ℕ) → most < length bytes → IsNone bytes × (read bytes ≡ Err (fault_at 0 Size))) → input ≡ TooLong → TakesInput most before after input
    → status ≡ ScriptStatus → text ≡ fault_line (fault_at 0 Size) → Refuses read IsNone most before after status text
refused_size read IsNone most before after (Whole bytes) status text longer is t script line = absurd (cc is)
refused_size read IsNone most before after TooLong status text longer is t script line =
    let of = longer t.taken t.holds in (
      script,
      record {
        taken = t.taken;
        from_front = t.from_front;
        holds = record { whole = inr t.holds; none = of.0; line = record { fault = fault_at 0 Size; is_read = of.1; text_is = line } };
      },
    )
