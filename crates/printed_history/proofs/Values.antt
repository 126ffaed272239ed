-- Values of a script, whose texts stay within a line: what a transaction replies and writes is such where what it finds and
-- has is.
use Rattle.std.proofs.Common.{ℕ, zero, suc, ◌≡◌, ◌<◌, ◌≤◌, length, arith, Bool, true, false, List, [], ◌∷◌, Option, Some, None, inl, inr}
use Rattle.std.specs.Prelude.{◌==◌, ◌+◌, ◌%◌, ◌^◌, All, IfSome, map}
use Rattle.std.proofs.lemmas.Bool.{cond_both, cases_eq}
use Rattle.std.proofs.lemmas.List.Elements.{All-nil, All-cons, All-head, All-tail, All-append}
use Rattle.zeus_base.specs.Values.{same_value}
use Rattle.zeus_base.specs.declared.config.Config.{Config}
use Rattle.zeus_base.specs.declared.config.ObjectDecl.{ObjectDecl}
use Rattle.zeus_base.specs.declared.value.Value.{Value}
use Rattle.zeus_base.specs.declared.value.Value.TheVariants.{Num, Text}
use Rattle.zeus_base.specs.TableLaws.{nth-put_same}
use Rattle.zeus_txn.specs.Map.{declared_content, no_content}
use Rattle.zeus_txn.specs.Ops.{object_of}
use Rattle.zeus_txn.specs.Run.{added, reaches, tested, effect, given, latest, rewritten, stored, fails_at, run_from, run}
use Rattle.zeus_txn.specs.declared.map.Versioned.{Versioned}
use Rattle.zeus_txn.specs.declared.ops.Op.{Op}
use Rattle.zeus_txn.specs.declared.ops.Op.TheVariants.{Get, Put, Add, Need, Same}
use Rattle.zeus_txn.specs.declared.reply.Ran.{Ran}
use Rattle.zeus_txn.specs.declared.reply.Reply.{Reply}
use Rattle.zeus_model.specs.Scripts.{FitsValue}
use Rattle.zeus_model.specs.Serial.{content, start_map, written_map, run_at, applied_map, serial_replies}
use Rattle.zeus_model.specs.Spelling.{value_text}
use Rattle.zeus_model.specs.Tables.{nth, put}
use Rattle.machine_moves.proofs.Lists.{nth-put_other}
use Rattle.printed_history.proofs.Lines.{is_line, decimal-is_line}

-- the value is one that a script can have, and so its text lacks byte 10
pub record IsOneLine (v : Value) : Type 0 where
  pub fits : FitsValue 2 v
  pub text : is_line (value_text v) ≡ true

-- the text of a number below 2^64 stays within a line
pub one_line-num : (n : ℕ) → n < 2 ^ 64 → IsOneLine (Num n)
unfolding value_text FitsValue
one_line-num n h = record { fits = h; text = decimal-is_line n }

one_line-sum : (n : ℕ) → IsOneLine (Num (n % 2 ^ 64))
one_line-sum n = one_line-num (n % 2 ^ 64) (omega arith)

-- a value, if there is one
unfoldable pub OneLineSome : Option Value → Type 0
OneLineSome None = Unit {0}
OneLineSome (Some v) = IsOneLine v

-- the value that an operation has
unfoldable pub OneLineOp : Op → Type 0
OneLineOp (Put x v) = IsOneLine v
OneLineOp _ = Unit {0}

abbrev pub OneLinePair : ℕ × Value → Type 0
OneLinePair w = IsOneLine w.1

pub record OneLineRan (r : Ran) : Type 0 where
  pub values : All IsOneLine r.reply.values
  pub writes : All OneLinePair r.writes

-- what an operation gives and stores
tested-one_line : (b : Bool) → IfSome (tested b) (λ e. OneLineSome e.gives × OneLineSome e.stores)
unfolding tested OneLineSome
tested-one_line true = (tt, tt)
tested-one_line false = tt

added-one_line : (v : Value) (d : ℕ) → IfSome (added v d) (λ e. OneLineSome e.gives × OneLineSome e.stores)
unfolding added OneLineSome
added-one_line (Num m) d = (one_line-sum (m + d), one_line-sum (m + d))
added-one_line (Text t) d = tt

effect-one_line : (op : Op) (v : Value) → OneLineOp op → IsOneLine v → IfSome (effect op v) (λ e. OneLineSome e.gives × OneLineSome e.stores)
unfolding effect OneLineOp OneLineSome
effect-one_line (Get x) v h p = (p, tt)
effect-one_line (Put x w) v h p = (tt, h)
effect-one_line (Add x d) v h p = added-one_line v d
effect-one_line (Need x n) v h p = tested-one_line (reaches v n)
effect-one_line (Same x w) v h p = tested-one_line (same_value v w)

given-one_line : (vs : List Value) (o : Option Value) → All IsOneLine vs → OneLineSome o → All IsOneLine (given vs o)
unfolding given OneLineSome
given-one_line vs None all h = all
given-one_line vs (Some v) all h = All-append IsOneLine vs (v ∷ []) all (All-cons IsOneLine v [] h (All-nil IsOneLine))

latest-one_line : (ws : List (ℕ × Value)) (x : ℕ) (v : Value) → All OneLinePair ws → IsOneLine v → IsOneLine (latest ws x v)
unfolding latest
latest-one_line [] x v all h = h
latest-one_line (w ∷ ws) x v all h =
    cond_both (x == w.0) w.1 (latest ws x v) IsOneLine (λ _. All-head OneLinePair w ws all) (λ _. latest-one_line ws x v (All-tail OneLinePair w ws all) h)

rewritten-one_line : (ws : List (ℕ × Value)) (x : ℕ) (v : Value) → All OneLinePair ws → IsOneLine v → All OneLinePair (rewritten ws x v)
unfolding rewritten
rewritten-one_line [] x v all h = All-cons OneLinePair (x, v) [] h all
rewritten-one_line (w ∷ ws) x v all h =
    let rest = All-tail OneLinePair w ws all in
    cond_both (x == w.0) ((x, v) ∷ ws) (w ∷ rewritten ws x v) (All OneLinePair)
    (λ _. All-cons OneLinePair (x, v) ws h rest)
    (λ _. All-cons OneLinePair w (rewritten ws x v) (All-head OneLinePair w ws all) (rewritten-one_line ws x v rest h))

stored-one_line : (ws : List (ℕ × Value)) (x : ℕ) (o : Option Value) → All OneLinePair ws → OneLineSome o → All OneLinePair (stored ws x o)
unfolding stored OneLineSome
stored-one_line ws x None all h = all
stored-one_line ws x (Some v) all h = rewritten-one_line ws x v all h

either_way : {E : Type 0} (P : Ran → Type 0) (Q : E → Type 0) (o : Option E) (a : Ran) (f : E → Ran) → IfSome o Q → P a → ((e : E) → Q e → P (f e)) → P (elim o [ None ↦ a | Some e ↦ f e ])
either_way P Q None a f h p g = p
either_way P Q (Some e) a f h p g = g e h

run_from-one_line : (found : ℕ → Value) (place : ℕ) (vs : List Value) (ws : List (ℕ × Value)) (ops : List Op) → ((x : ℕ) → IsOneLine (found x)) → All IsOneLine vs → All OneLinePair ws → All OneLineOp ops → OneLineRan (run_from found place vs ws ops)
unfolding run_from
run_from-one_line found place vs ws [] f values writes all = record { values = values; writes = writes }
run_from-one_line found place vs ws (op ∷ ops) f values writes all =
    let x = object_of op in
    let v = latest ws x (found x) in
    either_way OneLineRan (λ e. OneLineSome e.gives × OneLineSome e.stores) (effect op v) (fails_at place vs) (λ e. run_from found (suc place) (given vs e.gives) (stored ws x e.stores) ops)
    (effect-one_line op v (All-head OneLineOp op ops all) (latest-one_line ws x (found x) writes (f x)))
    (record { values = values; writes = All-nil OneLinePair })
    (λ e h. run_from-one_line found (suc place) (given vs e.gives) (stored ws x e.stores) ops f (given-one_line vs e.gives values h.0) (stored-one_line ws x e.stores writes h.1) (All-tail OneLineOp op ops all))

-- if the values found and those of the operations stay within a line, then so does all that running them gives
pub run-one_line : (found : ℕ → Value) (ops : List Op) → ((x : ℕ) → IsOneLine (found x)) → All OneLineOp ops → OneLineRan (run found ops)
unfolding run
run-one_line found ops f all = run_from-one_line found 0 [] [] ops f (All-nil IsOneLine) (All-nil OneLinePair) all

-- a transaction that fails, fails at one of its operations
IfSome_always : {E : Type 0} (o : Option E) → IfSome o (λ _. Unit {0})
IfSome_always None = tt
IfSome_always (Some e) = tt

run_from-place : (found : ℕ → Value) (n place : ℕ) (vs : List Value) (ws : List (ℕ × Value)) (ops : List Op) → place + length ops ≤ n → IfSome (run_from found place vs ws ops).reply.failed (λ k. k < n)
unfolding run_from
run_from-place found n place vs ws [] h = tt
run_from-place found n place vs ws (op ∷ ops) h =
    let x = object_of op in
    either_way (λ r. IfSome r.reply.failed (λ k. k < n)) (λ e. Unit {0}) (effect op (latest ws x (found x))) (fails_at place vs) (λ e. run_from found (suc place) (given vs e.gives) (stored ws x e.stores) ops)
    (IfSome_always (effect op (latest ws x (found x)))) (omega (arith, h))
    (λ e _. run_from-place found n (suc place) (given vs e.gives) (stored ws x e.stores) ops (omega (arith, h)))

run-place : (found : ℕ → Value) (n : ℕ) (ops : List Op) → length ops ≤ n → IfSome (run found ops).reply.failed (λ k. k < n)
unfolding run
run-place found n ops h = run_from-place found n 0 [] [] ops (omega (arith, h))

-- ---- tables

-- what holds at each place of a table holds at each place after a put, if it holds of what was put
pub nth-put : {A : Type 0} (P : A → Type 0) (d : A) (xs : List A) (i : ℕ) (v : A) → P v → ((j : ℕ) → P (nth d xs j)) → (j : ℕ) → P (nth d (put d xs i v) j)
nth-put P d xs i v here there j =
    elim (cases_eq j i) [
      | inl same ↦ rw (same, nth-put_same d xs i v) here
      | inr other ↦ rw (nth-put_other d xs i j v other) (there j)
    ]

-- ---- transactions run one after another

abbrev pub OneLineMap : List Versioned → Type 0
OneLineMap m = (x : ℕ) → IsOneLine (content m x).value

written_map-one_line : (m : List Versioned) (ws : List (ℕ × Value)) → OneLineMap m → All OneLinePair ws → OneLineMap (written_map m ws)
unfolding written_map
written_map-one_line m [] p all = p
written_map-one_line m (w ∷ ws) p all =
    written_map-one_line (put no_content m w.0 record { ver = (content m w.0).ver + 1; value = w.1 }) ws
    (nth-put (λ (c : Versioned). IsOneLine c.value) no_content m w.0 record { ver = (content m w.0).ver + 1; value = w.1 } (All-head OneLinePair w ws all) p)
    (All-tail OneLinePair w ws all)

abbrev pub OneLineReply : Reply → Type 0
OneLineReply r = All IsOneLine r.values

-- if a map's values and those of transactions stay within a line, then so do the replies of their serial run
pub serial_replies-one_line : (m : List Versioned) (txs : List (List Op)) → OneLineMap m → All (All OneLineOp) txs → All OneLineReply (serial_replies m txs)
unfolding serial_replies
serial_replies-one_line m [] p all = All-nil OneLineReply
serial_replies-one_line m (tx ∷ txs) p all =
    let ran = run-one_line (λ x. (content m x).value) tx p (All-head (All OneLineOp) tx txs all) in
    All-cons OneLineReply (run_at m tx).reply (serial_replies (applied_map m tx) txs) ran.values
    (serial_replies-one_line (applied_map m tx) txs (written_map-one_line m (run_at m tx).writes p ran.writes) (All-tail (All OneLineOp) tx txs all))

-- a reply that failed names one of at most n operations
abbrev pub FailsBelow : ℕ → Reply → Type 0
FailsBelow n r = IfSome r.failed (λ k. k < n)

-- if transactions have at most n operations, then a reply of their serial run that failed names one of the first n
pub serial_replies-places : (n : ℕ) (m : List Versioned) (txs : List (List Op)) → All (λ tx. length tx ≤ n) txs → All (FailsBelow n) (serial_replies m txs)
unfolding serial_replies
serial_replies-places n m [] all = All-nil (FailsBelow n)
serial_replies-places n m (tx ∷ txs) all =
    All-cons (FailsBelow n) (run_at m tx).reply (serial_replies (applied_map m tx) txs)
    (run-place (λ x. (content m x).value) n tx (All-head (λ (ops : List Op). length ops ≤ n) tx txs all))
    (serial_replies-places n (applied_map m tx) txs (All-tail (λ (ops : List Op). length ops ≤ n) tx txs all))

declared-one_line : (os : List ObjectDecl) → All (λ o. IsOneLine o.value) os → OneLineMap (map declared_content os)
unfolding declared_content nth
declared-one_line [] all x = one_line-num 0 (omega arith)
declared-one_line (o ∷ os) all zero = All-head (λ (o : ObjectDecl). IsOneLine o.value) o os all
declared-one_line (o ∷ os) all (suc x) = declared-one_line os (All-tail (λ (o : ObjectDecl). IsOneLine o.value) o os all) x

-- if the values of the declared objects stay within a line, then so do those of the map at the start
pub start_map-one_line : (c : Config) → All (λ o. IsOneLine o.value) c.objects → OneLineMap (start_map c)
unfolding start_map
start_map-one_line c all = declared-one_line c.objects all
