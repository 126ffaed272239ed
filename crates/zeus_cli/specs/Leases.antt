-- The answer to `lease`.
use Rattle.std.specs.Prelude.{ℕ, ◌≡◌, ◌⊎◌, ◌++◌, List, Option}
use Rattle.std.specs.Io.KnownBytes.{IsAtEnd}
use Rattle.zeus_io.specs.Bytes.{Takes}
use Rattle.zeus_io.specs.declared.status.Status.{Status}
use Rattle.zeus_io.specs.declared.status.Status.TheVariants.{Done, Script as ScriptStatus}
use Rattle.zeus_lease.specs.Law.{IsLeftOut, NeverActs}
use Rattle.zeus_lease.specs.Machine.{Machine, run, start}
use Rattle.zeus_lease.specs.Reading.{script_read}
use Rattle.zeus_lease.specs.Scripts.{IsSpelled}
use Rattle.zeus_lease.specs.Text.{lease_text}
use Rattle.zeus_lease.specs.declared.script.LeaseScript.{LeaseScript}
use Rattle.zeus_lease.specs.declared.step.LeaseStep.{LeaseStep}
use Rattle.zeus_cli.specs.Refusal.{IsRefused}
use Rattle.zeus_cli.specs.Runs.{longest}

-- these bytes are the text of no script of leases
abbrev pub IsNoLeases : List ℕ → Type 0
IsNoLeases bytes = (s : LeaseScript) → ¬ IsSpelled bytes s

-- where steps lead the machine of a script
abbrev pub led_to : LeaseScript → List LeaseStep → Machine
led_to s steps = run (start s.nodes s.length s.percent) steps

-- the source was read to its end, the bytes taken are a script of leases, and this is the text of its answers
pub record IsLeaseText (before after : Option (List ℕ)) (text : List ℕ) : Type 0 where
  pub script : LeaseScript
  pub to_end : IsAtEnd after
  pub taken : Takes before after (λ taken. IsSpelled taken script)
  pub text_is : text ≡ lease_text script
  -- from the view on that leaves a node out, no act of the node is acted
  pub never : (first rest : List LeaseStep) (n : ℕ) → IsLeftOut (led_to script first) n → NeverActs (led_to script (first ++ rest)) n

-- the text of no script of leases was taken, and this text is the line of its fault
abbrev pub IsLeaseRefusal : Option (List ℕ) → Option (List ℕ) → List ℕ → Type 0
IsLeaseRefusal before after text = Takes before after (IsRefused script_read IsNoLeases longest after text)

-- the answers of the script, or the line for bytes that are none
abbrev pub IsLeaseAnswer : Option (List ℕ) → Option (List ℕ) → Status → List ℕ → Type 0
IsLeaseAnswer before after status text = ((status ≡ Done) × IsLeaseText before after text) ⊎ ((status ≡ ScriptStatus) × IsLeaseRefusal before after text)
