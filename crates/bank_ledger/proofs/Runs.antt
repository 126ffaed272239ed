-- Every run of the bank's transactions keeps its money.
use Rattle.std.proofs.Common.{ℕ, zero, suc, ◌≡◌, ◌*◌, ◌<◌, ◌≤◌, List, [], ◌∷◌, length, map, Some, refl, sym, ap, subst, ◌∙◌, arith}
use Rattle.std.specs.Prelude.{All, slice_get}
use Rattle.std.proofs.lemmas.List.{length-map, length-replicate}
use Rattle.std.proofs.lemmas.List.Elements.{All-get_or, All-head, All-tail}
use Rattle.std.proofs.lemmas.Option.{slice_get_within}
use Rattle.zeus_base.specs.TableLaws.{nth_found, nth_here}
use Rattle.zeus_base.specs.Tables.{nth}
use Rattle.zeus_base.specs.declared.config.Config.{Config}
use Rattle.zeus_base.specs.declared.step.Step.{Step}
use Rattle.zeus_base.specs.declared.step.Step.TheVariants.{Begin}
use Rattle.zeus_base.specs.declared.value.Value.TheVariants.{Num}
use Rattle.zeus_txn.specs.declared.map.Versioned.{Versioned}
use Rattle.zeus_txn.specs.declared.ops.Op.{Op}
use Rattle.zeus_txn.specs.declared.tx.TxDecl.{TxDecl}
use Rattle.zeus_model.specs.Scripts.{FitsStep, FitsTxs}
use Rattle.zeus_model.specs.Serial.{start_map}
use Rattle.zeus_model.specs.Sound.{Sound, times}
use Rattle.zeus_model.specs.World.{World, no_tx, run, start, stepped}
use Rattle.machine_moves.specs.Fits.{StepFits}
use Rattle.machine_moves.proofs.Start.{start-config}
use Rattle.machine_moves.proofs.Steps.{IsStep, step_is_moves}
use Rattle.data_safety.specs.RunState.{run_state}
use Rattle.data_safety.proofs.steps.StepRuns.{moves_txs, start-txs}
use Rattle.data_safety.proofs.steps.StepMoves.{step_is_run_moves}
use Rattle.invariants.proofs.Start.{nth-map}
use Rattle.soundness.specs.Telling.{IsTold}
use Rattle.soundness.proofs.Fitting.{fits-steps}
use Rattle.soundness.proofs.Runs.{IsReached, run-config, run-sound, start-reached, step-reached}
use Rattle.soundness.proofs.RunsTold.{run-told}
use Rattle.bank_ledger.specs.declared.bank_tx.BankTx.{BankTx}
use Rattle.bank_ledger.specs.declared.bank_tx.BankTx.TheVariants.{Balance}
use Rattle.bank_ledger.specs.Operations.{FitsBank, operations}
use Rattle.bank_ledger.specs.Money.{amount, held}
use Rattle.bank_ledger.specs.Bank.{IsBank, KeepsMoney, balances_left, bank_config, first_balances, map_left, opening, ops_of, value_of}
use Rattle.bank_ledger.proofs.Configuration.{bank_limits, start_shown, total-opening}
use Rattle.bank_ledger.proofs.History.{IsIts, Leaves, are_its, few_points, leaves}
use Rattle.bank_ledger.proofs.Tables.{Shows, nth-le_total, total}

-- ---- a run keeps its transactions

run_txs : (c : Config) (txs : List TxDecl) (steps : List Step) (w : World) → w.config ≡ c → w.txs ≡ txs → IsReached w → All (StepFits c txs) steps → (run w steps).txs ≡ txs
unfolding run
run_txs c txs [] w config same r fits = same
run_txs c txs (s ∷ ss) w config same r fits =
    let first : StepFits c txs s = All-head (StepFits c txs) s ss fits in
    let moved : IsStep w (stepped w s) = step_is_moves w s txs r.usual (rw config first) in
    let kept : (stepped w s).txs ≡ w.txs = moves_txs (run_state w) (run_state (stepped w s)) (step_is_run_moves w s r.usual (rw (config, same) first)) in
    run_txs c txs ss (stepped w s) (moved.config ∙ config) (kept ∙ same) (step-reached c txs w s config same r first) (All-tail (StepFits c txs) s ss fits)

-- ---- which transactions are in its history

All-nth : {A : Type 0} (P : A → Type 0) (d : A) (xs : List A) (i : ℕ) → i < length xs → All P xs → P (nth d xs i)
All-nth P d xs i less all = rw (nth_here d xs i less) (All-get_or P xs i (nth d xs i) less all)

All-found : {A : Type 0} (P : A → Type 0) (xs : List A) (i : ℕ) (x : A) → slice_get xs i ≡ Some x → All P xs → P x
All-found P xs i x is all = subst P (nth_found x xs i x (sym is)) (All-nth P x xs i (slice_get_within xs i x is) all)

begun_there : (c : Config) (n k id : ℕ) (steps : List Step) → All (FitsStep c n) steps → slice_get steps k ≡ Some (Begin id) → id < n
unfolding FitsStep
begun_there c n k id steps fits is = All-found (FitsStep c n) steps k (Begin id) is fits

at_most_once : (n : ℕ) → (1 ≤ n → n ≡ 1) → n ≤ 1
at_most_once zero once = omega arith
at_most_once (suc n) once = let one = once (omega arith) in omega arith

same_count : (txs : List BankTx) (declared : List TxDecl) → map ops_of declared ≡ map operations txs → length declared ≡ length txs
same_count txs declared same = sym (length-map declared ops_of) ∙ ap length same ∙ length-map txs operations

-- a declared transaction is the bank's of its number
its : (accounts : ℕ) (txs : List BankTx) (declared : List TxDecl) (w : World) (id : ℕ) → IsBank accounts txs declared → w.txs ≡ declared → id < length declared → IsIts accounts txs w id
its accounts txs declared w id bank same less =
    let there : id < length txs = let count = same_count txs declared bank.operations in omega arith in
    record {
      operations =
          ap (λ (ts : List TxDecl). ops_of (nth no_tx ts id)) same
          ∙ sym (nth-map [] no_tx ops_of declared id less)
          ∙ ap (λ (all : List (List Op)). nth [] all id) bank.operations
          ∙ nth-map [] (Balance 0) operations txs id there;
      fits = All-nth (FitsBank accounts) (Balance 0) txs id there bank.each;
    }

-- ---- what the bank holds

held-shown : (m : List Versioned) (bs : List ℕ) → map value_of m ≡ map Num bs → held m ≡ total bs
unfolding held amount total
held-shown [] [] same = refl
held-shown [] (b ∷ bs) same = absurd cc
held-shown (v ∷ m) [] same = absurd cc
held-shown (v ∷ m) (b ∷ bs) same =
    let head : v.value ≡ Num b = cc in
    let tail : map value_of m ≡ map Num bs = cc in
    let rest = held-shown m bs tail in
    let first : amount v.value ≡ b = ap amount head in
    omega arith

-- ---- the run

leaves_money : (accounts : ℕ) (txs : List BankTx) (w : World) → w.config ≡ bank_config accounts → accounts ≤ 128 → length w.book.points ≤ 10000
    → Leaves txs w w.book.points (start_map w.config) (first_balances accounts) → KeepsMoney accounts txs w
leaves_money accounts txs w config few points l =
    let whole_first = total-opening (2 * accounts) in
    let most = l.few in
    let even = l.even in
    let hold = held-shown (map_left w) (balances_left accounts txs w) l.shown.same in
    let paid = l.paid in
    let count : length (map_left w) ≡ length (balances_left accounts txs w) =
    sym (length-map (map_left w) value_of) ∙ ap length l.shown.same ∙ length-map (balances_left accounts txs w) Num in
    record {
      size = count ∙ l.size ∙ length-replicate (2 * accounts) opening;
      balanced = l.shown.same;
      in_range = λ x. let le = nth-le_total (balances_left accounts txs w) x in omega arith;
      counted = (omega arith, omega arith, omega arith);
      even = omega arith;
    }

-- if a configuration and transactions are a bank's, then each run of steps that fit keeps its money
pub keeps_money : (accounts : ℕ) (txs : List BankTx) (declared : List TxDecl) (steps : List Step) → IsBank accounts txs declared
    → FitsTxs (bank_config accounts) declared → All (FitsStep (bank_config accounts) (length declared)) steps
    → KeepsMoney accounts txs (run (start (bank_config accounts) declared) steps)
keeps_money accounts txs declared steps bank fit fits =
    let c = bank_config accounts in
    let w = run (start c declared) steps in
    let limits = bank_limits accounts bank.some bank.few in
    let sound : Sound w = run-sound c declared steps limits fit fits in
    let told : IsTold (start c declared) steps = run-told c declared steps limits fit fits in
    let config : w.config ≡ c = run-config c declared steps limits fits in
    let same : w.txs ≡ declared = run_txs c declared steps (start c declared) (start-config c declared) (start-txs c declared) (start-reached c declared limits fit.each) (fits-steps c declared steps fits) in
    let there : (id : ℕ) → 1 ≤ times id w.book.points → id < length declared =
    λ id h. let begun = (sound.one_history.placed id h).begun in
    begun_there c (length declared) begun.1 id steps fits ((told.begun id begun.1).0 begun.3).step in
    let once : (id : ℕ) → times id w.book.points ≤ 1 = λ id. at_most_once (times id w.book.points) (λ h. (sound.one_history.placed id h).once) in
    let count = few_points w.book.points (length declared) once there in
    let few = fit.few in
    let whole_first = total-opening (2 * accounts) in
    let at_most = bank.few in
    let shown : Shows (start_map w.config) (first_balances accounts) = rw config (start_shown accounts) in
    let all = are_its accounts txs w (length declared) (λ id less. its accounts txs declared w id bank same less) w.book.points there in
    leaves_money accounts txs w config at_most (omega arith)
    (leaves accounts txs w w.book.points (start_map w.config) (first_balances accounts) all shown (length-replicate (2 * accounts) opening) (omega arith) sound.serial)
