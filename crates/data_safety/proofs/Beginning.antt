-- At the start of a run the data invariant holds.
use Rattle.std.specs.Prelude.{ℕ, ◌≡◌, ◌<◌, Bool, true, false, List, [], length, Some, None, is_some, ◌⊎◌, ◌↔◌}
use Rattle.std.proofs.Common.{arith, refl, sym, ap, inl, inr, ◌∙◌}
use Rattle.std.proofs.lemmas.Bool.{cases_lt}
use Rattle.zeus_base.specs.Limits.{KeepsLimits}
use Rattle.zeus_base.specs.Nodes.{has}
use Rattle.zeus_base.specs.declared.config.Config.{Config}
use Rattle.zeus_base.specs.declared.config.ObjectDecl.{ObjectDecl}
use Rattle.zeus_base.specs.declared.order.Stream.{Stream}
use Rattle.zeus_packet.specs.declared.letter.State.TheVariants.{Valid}
use Rattle.zeus_packet.specs.declared.place.Place.{Place}
use Rattle.zeus_packet.specs.declared.write.Content.{Content}
use Rattle.zeus_txn.specs.Map.{no_content, declared_content, start_map}
use Rattle.zeus_txn.specs.Ops.{mentions, named}
use Rattle.zeus_txn.specs.declared.tx.TxDecl.{TxDecl}
use Rattle.zeus_txn.specs.declared.map.Versioned.{Versioned}
use Rattle.zeus_model.specs.Tables.{nth, where_true}
use Rattle.zeus_model.specs.Book.{EntryId, no_record, record_of}
use Rattle.zeus_model.specs.Serial.{serial_map, serial_replies}
use Rattle.zeus_model.specs.Sound.{times, replies_of}
use Rattle.zeus_model.specs.State.{Node, no_slot, copy, slot}
use Rattle.zeus_model.specs.World.{no_tx, start, start_node, start_copy, start_entry}
use Rattle.zeus_model.specs.declared.state.Copy.{Copy}
use Rattle.zeus_model.specs.declared.state.Current.{Current}
use Rattle.machine_moves.specs.SystemState.{system, IsLive}
use Rattle.machine_moves.proofs.Lists.{In-nothing}
use Rattle.machine_moves.proofs.Start.{start_usual}
use Rattle.ownership_safety.specs.Object.{chain_place}
use Rattle.replication_safety.specs.StreamState.{Has, top, IsAlive}
use Rattle.ownership_safety.proofs.Start.{start-ownership}
use Rattle.replication_safety.proofs.Start.{start-Replication}
use Rattle.invariants.specs.Streams.{stream_state}
use Rattle.invariants.specs.Objects.{object, no_object}
use Rattle.invariants.proofs.Start.{start_inside, start_outside, start_config, start_within, nth-map, begins_object, begins_stream, start_slots, nowhere_slots, kept_at_start, object_standing, nth-none}
use Rattle.data_safety.specs.RunState.{Witness, run_state, txs_of, place_now, Lives}
use Rattle.data_safety.specs.DataInvariant.{DataInvariant, IsCopied, IsEntered, IsBooked, left, content_of}

-- nothing has been decided or has passed
abbrev pub untold : Witness
untold = record { chain = λ x. []; passed = λ t. 0 }

-- the transactions name declared objects
abbrev pub NamesDeclared : Config → List TxDecl → Type 0
NamesDeclared c txs = (id x : ℕ) → mentions x (named (nth no_tx txs id).tx) ≡ true → x < length c.objects

-- ---- nothing is pending, stored or told

no_slots : (c : Config) (txs : List TxDecl) (n s : ℕ) → slot ((system (start c txs)).node n) s ≡ no_slot
no_slots c txs n s =
    elim (cases_lt n c.nodes) [
      | inl within ↦ rw (start_inside c txs n within) (start_slots c n s)
      | inr past ↦ rw (start_outside c txs n past) (nowhere_slots s)
    ]

no_entries : (c : Config) (txs : List TxDecl) (n s i : ℕ) → i < length (slot ((system (start c txs)).node n) s).pending → ⊥
no_entries c txs n s i h = let none : i < length no_slot.pending = rw (no_slots c txs n s) at h in omega arith

nothing_committed : (c : Config) (txs : List TxDecl) (t : Stream) (n : ℕ) → top (stream_state (system (start c txs)) t) n ≡ 0
nothing_committed c txs t n = rw ((kept_at_start c txs t n).0, (kept_at_start c txs t n).1) refl

nothing_lives : (c : Config) (txs : List TxDecl) (t : Stream) (k : ℕ) → Lives (run_state (start c txs)) untold t k → ⊥
unfolding IsAlive
nothing_lives c txs t k lives = let none = nothing_committed c txs t (stream_state (system (start c txs)) t).home in let below = lives.1 in omega arith

nothing_had : (c : Config) (txs : List TxDecl) (t : Stream) (n k : ℕ) → Has (stream_state (system (start c txs)) t) n k → ⊥
nothing_had c txs t n k h = let none = nothing_committed c txs t n in let below = h.1 in omega arith

-- ---- copies at the start

some_where : (b : Bool) (c : Copy) → (is_some (where_true b c) ≡ true) ↔ (b ≡ true)
unfolding where_true
some_where true c = (λ h. refl, λ h. refl)
some_where false c = (λ h. cc, λ h. cc)

-- the copy that a node begins with
begun_copy : (c : Config) (txs : List TxDecl) (n x : ℕ) → x < length c.objects → IsLive (system (start c txs)) n
    → copy ((system (start c txs)).node n) x ≡ start_copy n (nth no_object c.objects x)
unfolding start_node
begun_copy c txs n x h live =
    ap (λ (k : Node). copy k x) (start_inside c txs n (start_within c txs n live)) ∙ nth-map None no_object (start_copy n) c.objects x h

place_is : (c : Config) (txs : List TxDecl) (x : ℕ) → (place_now (run_state (start c txs)) untold x).replicas ≡ (nth no_object c.objects x).replicas
unfolding chain_place start_entry
place_is c txs x = ap (λ (p : Place). p.replicas) (object_standing c txs x).1

left_is : (c : Config) (txs : List TxDecl) (x : ℕ) → x < length c.objects
    → left (run_state (start c txs)) x ≡ record { ver = 0; value = (nth no_object c.objects x).value }
unfolding left serial_map start_map declared_content txs_of system start
left_is c txs x h = ap (λ (v : Versioned). content_in v) (nth-map no_content no_object declared_content c.objects x h)
  where
    content_in : Versioned → Content
    content_in v = record { ver = v.ver; value = v.value }

begun_where : (n : ℕ) (o : ObjectDecl) → (is_some (start_copy n o) ≡ true) ↔ (has n o.replicas ≡ true)
unfolding start_copy
begun_where n o = some_where (has n o.replicas) record { value = o.value; ver = 0; state = Valid }

where-some : (b : Bool) (a c : Copy) → where_true b a ≡ Some c → c ≡ a
unfolding where_true
where-some true a c h = cc
where-some false a c h = cc

begun_content : (n : ℕ) (o : ObjectDecl) (c : Copy) → start_copy n o ≡ Some c → content_of c ≡ record { ver = 0; value = o.value }
unfolding start_copy
begun_content n o c h = ap (λ (k : Copy). content_of k) (where-some (has n o.replicas) record { value = o.value; ver = 0; state = Valid } c h)

copied_start : (c : Config) (txs : List TxDecl) → IsCopied (run_state (start c txs)) untold
copied_start c txs = record {
  placed = λ n x within live.
      rw (begun_copy c txs n x (rw (start_config c txs).0 at within) live, place_is c txs x) (begun_where n (nth no_object c.objects x));
  content = λ n x co within live is.
      let h : x < length c.objects = rw (start_config c txs).0 at within in
      inl (begun_content n (nth no_object c.objects x) co (sym (begun_copy c txs n x h live) ∙ is) ∙ sym (left_is c txs x h));
  taken = λ n t k w co within live h. absurd (nothing_had c txs t n k h);
}

entered_start : (c : Config) (txs : List TxDecl) → IsEntered (run_state (start c txs)) untold
entered_start c txs = record {
  home = λ t i h. absurd (no_entries c txs t.node t.slot i h);
  owner = λ t k x lives. absurd (nothing_lives c txs t k lives);
  followed = λ t k f w lives. absurd (nothing_lives c txs t k lives);
  serial = λ t k lives. absurd (nothing_lives c txs t k lives);
  apart = λ n s r i j x ne h. absurd (no_entries c txs n s i h);
  owned = λ n s i x live h. absurd (no_entries c txs n s i h);
  given = λ n x e p co within g. In-nothing _ (rw (object_standing c txs x).2 at g.1);
  low = λ t from to e k d i w letter below. absurd (omega arith);
}

no_records : (c : Config) (txs : List TxDecl) (id : ℕ) → record_of (start c txs).book id ≡ no_record
unfolding start
no_records c txs id = nth-none no_record (length txs) id

no_entry_known : (c : Config) (txs : List TxDecl) (id : ℕ) (e : EntryId) → (record_of (start c txs).book id).entry ≡ Some e → ⊥
no_entry_known c txs id e h = let none : no_record.entry ≡ Some e = rw (no_records c txs id) at h in cc

no_current : (c : Config) (txs : List TxDecl) (n s : ℕ) (cu : Current) → (slot ((system (start c txs)).node n) s).current ≡ Some cu → ⊥
no_current c txs n s cu h = let none : no_slot.current ≡ Some cu = rw (no_slots c txs n s) at h in cc

nothing_begun : (c : Config) (txs : List TxDecl) (id step : ℕ) → (record_of (start c txs).book id).begun ≡ Some step → ⊥
nothing_begun c txs id step h = let none : no_record.begun ≡ Some step = rw (no_records c txs id) at h in cc

nothing_acked : (c : Config) (txs : List TxDecl) (id step : ℕ) → (record_of (start c txs).book id).acked ≡ Some step → ⊥
nothing_acked c txs id step h = let none : no_record.acked ≡ Some step = rw (no_records c txs id) at h in cc

no_point : (c : Config) (txs : List TxDecl) (id : ℕ) → is_some (record_of (start c txs).book id).point ≡ true → ⊥
no_point c txs id h = let none : is_some no_record.point ≡ true = rw (no_records c txs id) at h in cc

nothing_ended : (c : Config) (txs : List TxDecl) (id : ℕ)
    → (is_some (record_of (start c txs).book id).entry ≡ true) ⊎ ((is_some (record_of (start c txs).book id).point ≡ true) ⊎ ((record_of (start c txs).book id).refused ≡ true)) → ⊥
nothing_ended c txs id (inl h) = let none : is_some no_record.entry ≡ true = rw (no_records c txs id) at h in cc
nothing_ended c txs id (inr (inl h)) = no_point c txs id h
nothing_ended c txs id (inr (inr h)) = let none : no_record.refused ≡ true = rw (no_records c txs id) at h in cc

booked_start : (c : Config) (txs : List TxDecl) → NamesDeclared c txs → IsBooked (run_state (start c txs)) untold
unfolding start times replies_of txs_of serial_replies
booked_start c txs names = record {
  objects = λ id x h. rw (start_config c txs).0 (names id x h);
  entry = λ t k h. absurd (let none = nothing_committed c txs t (stream_state (system (start c txs)) t).home in omega arith);
  one_entry = λ i j e h. absurd (no_entry_known c txs i e h);
  below_end = λ id e h. absurd (no_entry_known c txs id e h);
  pending = λ t i h. absurd (no_entries c txs t.node t.slot i h);
  current = λ n s cu h. absurd (no_current c txs n s cu h);
  begun = λ id h. absurd (nothing_ended c txs id h);
  begun_before = λ id step h. absurd (nothing_begun c txs id step h);
  point_after = λ id begin step h. absurd (nothing_begun c txs id begin h);
  acked_at = λ id step h. absurd (nothing_acked c txs id step h);
  once = λ id. omega arith;
  in_history = λ id. (λ h. absurd (no_point c txs id h), λ h. absurd (omega arith));
  passed = λ id e h. absurd (no_entry_known c txs id e h);
  acked = λ id e h. absurd (no_entry_known c txs id e h);
  replies = refl;
}

-- if a configuration keeps its limits and its transactions name declared objects, then the invariant holds at the start
pub start-invariant : (c : Config) (txs : List TxDecl) → KeepsLimits c → NamesDeclared c txs → DataInvariant (run_state (start c txs)) untold
start-invariant c txs keeps names = record {
  limits = rw (start_config c txs).0 keeps;
  steady = (start_usual c txs keeps).steady;
  ownership = λ x within. start-ownership (object (system (start c txs)) x) (begins_object c txs x keeps (rw (start_config c txs).0 at within));
  replication = λ t. start-Replication (stream_state (system (start c txs)) t) (begins_stream c txs t);
  copied = copied_start c txs;
  entered = entered_start c txs;
  booked = booked_start c txs names;
}
