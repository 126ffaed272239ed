-- A node keeps its ranges where one of its parts becomes another that fits.
use Rattle.std.specs.Prelude.{ℕ, zero, suc, ◌≡◌, ◌<◌, ◌≤◌, true, List, [], ◌∷◌, length, Option, None, refl}
use Rattle.std.proofs.Common.{arith, ap, ◌∙◌, inl, inr}
use Rattle.std.proofs.lemmas.Bool.{cases_eq}
use Rattle.zeus_base.specs.TableLaws.{nth-put_same, nth-put_other, length-put}
use Rattle.zeus_base.specs.declared.config.Limits.{Limits}
use Rattle.zeus_base.specs.declared.order.Stream.{Stream}
use Rattle.zeus_packet.specs.Fits.{nodes_fit, value_fits}
use Rattle.zeus_model.specs.declared.state.Copy.{Copy}
use Rattle.zeus_model.specs.declared.state.Entry.{Entry}
use Rattle.zeus_model.specs.declared.state.Gather.{Gather}
use Rattle.zeus_model.specs.Membership.{dropped}
use Rattle.zeus_model.specs.State.{Node, Slot, StreamLog, no_entry, no_slot, no_log, value_of, with_entry, with_copies, with_copy, with_gather, with_slot, with_log}
use Rattle.zeus_model.specs.Tables.{nth, put}
use Rattle.node_ranges.specs.NodeSets.{nodes_fit-none}
use Rattle.node_ranges.specs.Ranges.{FitsEntry, FitsGather, FitsSlot, FitsLog, KeepsRanges}

-- what holds at each place of a table holds at each place after a put, if it holds of what was put
pub nth-put : {A : Type 0} (P : ℕ → A → Type 0) (d : A) (xs : List A) (i : ℕ) (v : A) → P i v → ((j : ℕ) → P j (nth d xs j)) → (j : ℕ) → P j (nth d (put d xs i v) j)
nth-put P d xs i v here there j =
    elim (cases_eq i j) [
      | inl same ↦ rw (← same, nth-put_same d xs i v) here
      | inr other ↦ rw (nth-put_other d xs i j v other) (there j)
    ]

-- what it knows of the placement of an object
pub KeepsRanges-with_entry : (limits : Limits) (n : Node) (x : ℕ) (e : Entry) → x < limits.objects → FitsEntry limits e → KeepsRanges limits n → KeepsRanges limits (with_entry n x e)
KeepsRanges-with_entry limits n x e less fit k =
    record {
      sizes = record {
        most = k.sizes.most;
        entries = length-put no_entry n.entries x e (omega (arith, k.sizes.entries)) ∙ k.sizes.entries;
        copies = k.sizes.copies;
        gathers = k.sizes.gathers;
        slots = k.sizes.slots;
        nodes = k.sizes.nodes;
        streams = k.sizes.streams;
      };
      nodes = record { me = k.nodes.me; epoch = k.nodes.epoch; members = k.nodes.members; directory = k.nodes.directory; reported = k.nodes.reported };
      entries = nth-put (λ (y : ℕ) (f : Entry). y < limits.objects → FitsEntry limits f) no_entry n.entries x e (λ _. fit) k.entries;
      copies = k.copies;
      gathers = k.gathers;
      slots = k.slots;
      logs = k.logs;
    }

-- its copies
pub KeepsRanges-with_copies : (limits : Limits) (n : Node) (copies : List (Option Copy)) → length copies ≡ limits.objects → ((x : ℕ) → value_fits limits (value_of (nth None copies x)) ≡ true) → KeepsRanges limits n → KeepsRanges limits (with_copies n copies)
KeepsRanges-with_copies limits n copies size fit k =
    record {
      sizes = record {
        most = k.sizes.most;
        entries = k.sizes.entries;
        copies = size;
        gathers = k.sizes.gathers;
        slots = k.sizes.slots;
        nodes = k.sizes.nodes;
        streams = k.sizes.streams;
      };
      nodes = record { me = k.nodes.me; epoch = k.nodes.epoch; members = k.nodes.members; directory = k.nodes.directory; reported = k.nodes.reported };
      entries = k.entries;
      copies = fit;
      gathers = k.gathers;
      slots = k.slots;
      logs = k.logs;
    }

-- its copy of an object
pub KeepsRanges-with_copy : (limits : Limits) (n : Node) (x : ℕ) (c : Option Copy) → x < limits.objects → value_fits limits (value_of c) ≡ true → KeepsRanges limits n → KeepsRanges limits (with_copy n x c)
KeepsRanges-with_copy limits n x c less fit k =
    KeepsRanges-with_copies limits n (put None n.copies x c) (length-put None n.copies x c (omega (arith, k.sizes.copies)) ∙ k.sizes.copies)
    (nth-put (λ (_ : ℕ) (d : Option Copy). value_fits limits (value_of d) ≡ true) None n.copies x c fit k.copies) k

-- what it has gathered for an object
pub KeepsRanges-with_gather : (limits : Limits) (n : Node) (x : ℕ) (g : Option Gather) → x < limits.objects → FitsGather limits g → KeepsRanges limits n → KeepsRanges limits (with_gather n x g)
KeepsRanges-with_gather limits n x g less fit k =
    record {
      sizes = record {
        most = k.sizes.most;
        entries = k.sizes.entries;
        copies = k.sizes.copies;
        gathers = length-put None n.gathers x g (omega (arith, k.sizes.gathers)) ∙ k.sizes.gathers;
        slots = k.sizes.slots;
        nodes = k.sizes.nodes;
        streams = k.sizes.streams;
      };
      nodes = record { me = k.nodes.me; epoch = k.nodes.epoch; members = k.nodes.members; directory = k.nodes.directory; reported = k.nodes.reported };
      entries = k.entries;
      copies = k.copies;
      gathers = nth-put (λ (_ : ℕ) (h : Option Gather). FitsGather limits h) None n.gathers x g fit k.gathers;
      slots = k.slots;
      logs = k.logs;
    }

-- an own slot
pub KeepsRanges-with_slot : (limits : Limits) (n : Node) (s : ℕ) (l : Slot) → s < limits.slots → FitsSlot limits n.me l → KeepsRanges limits n → KeepsRanges limits (with_slot n s l)
KeepsRanges-with_slot limits n s l less fit k =
    record {
      sizes = record {
        most = k.sizes.most;
        entries = k.sizes.entries;
        copies = k.sizes.copies;
        gathers = k.sizes.gathers;
        slots = length-put no_slot n.slots s l (omega (arith, k.sizes.slots)) ∙ k.sizes.slots;
        nodes = k.sizes.nodes;
        streams = k.sizes.streams;
      };
      nodes = record { me = k.nodes.me; epoch = k.nodes.epoch; members = k.nodes.members; directory = k.nodes.directory; reported = k.nodes.reported };
      entries = k.entries;
      copies = k.copies;
      gathers = k.gathers;
      slots = nth-put (λ (_ : ℕ) (m : Slot). FitsSlot limits n.me m) no_slot n.slots s l fit k.slots;
      logs = k.logs;
    }

-- the streams of a node after one of them was set
abbrev row_after : Node → Stream → StreamLog → List StreamLog
row_after n s l = put no_log (nth [] n.logs s.node) s.slot l

-- a foreign stream
pub KeepsRanges-with_log : (limits : Limits) (n : Node) (s : Stream) (l : StreamLog) → s.node < limits.nodes → s.slot < limits.slots → FitsLog limits l → KeepsRanges limits n → KeepsRanges limits (with_log n s l)
KeepsRanges-with_log limits n s l node slot fit k =
    let row : length (nth [] n.logs s.node) ≡ limits.slots = k.sizes.streams s.node node in
    record {
      sizes = record {
        most = k.sizes.most;
        entries = k.sizes.entries;
        copies = k.sizes.copies;
        gathers = k.sizes.gathers;
        slots = k.sizes.slots;
        nodes = length-put [] n.logs s.node (row_after n s l) (omega (arith, k.sizes.nodes)) ∙ k.sizes.nodes;
        streams = nth-put (λ (m : ℕ) (ls : List StreamLog). m < limits.nodes → length ls ≡ limits.slots) [] n.logs s.node (row_after n s l)
            (λ _. length-put no_log (nth [] n.logs s.node) s.slot l (omega arith) ∙ row) k.sizes.streams;
      };
      nodes = record { me = k.nodes.me; epoch = k.nodes.epoch; members = k.nodes.members; directory = k.nodes.directory; reported = k.nodes.reported };
      entries = k.entries;
      copies = k.copies;
      gathers = k.gathers;
      slots = k.slots;
      logs = λ t. nth-put (λ (_ : ℕ) (ls : List StreamLog). (i : ℕ) → FitsLog limits (nth no_log ls i)) [] n.logs s.node (row_after n s l)
          (nth-put (λ (_ : ℕ) (m : StreamLog). FitsLog limits m) no_log (nth [] n.logs s.node) s.slot l fit (λ i. k.logs record { node = s.node; slot = i }))
          (λ m i. k.logs record { node = m; slot = i }) t.node t.slot;
    }

-- other nodes have reported
pub KeepsRanges-reported : (limits : Limits) (n : Node) (reported : List ℕ) → nodes_fit limits reported ≡ true → KeepsRanges limits n → KeepsRanges limits (record n { reported = reported })
KeepsRanges-reported limits n reported fit k =
    record {
      sizes = record {
        most = k.sizes.most;
        entries = k.sizes.entries;
        copies = k.sizes.copies;
        gathers = k.sizes.gathers;
        slots = k.sizes.slots;
        nodes = k.sizes.nodes;
        streams = k.sizes.streams;
      };
      nodes = record { me = k.nodes.me; epoch = k.nodes.epoch; members = k.nodes.members; directory = k.nodes.directory; reported = fit };
      entries = k.entries;
      copies = k.copies;
      gathers = k.gathers;
      slots = k.slots;
      logs = k.logs;
    }

length-dropped : (gs : List (Option Gather)) → length (dropped gs) ≡ length gs
unfolding dropped
length-dropped [] = refl
length-dropped (g ∷ gs) = ap suc (length-dropped gs)

nth-dropped : (gs : List (Option Gather)) (x : ℕ) → nth None (dropped gs) x ≡ None
unfolding dropped nth
nth-dropped [] x = refl
nth-dropped (g ∷ gs) zero = refl
nth-dropped (g ∷ gs) (suc x) = nth-dropped gs x

-- a node takes a later view, and drops what it gathered and who reported
pub KeepsRanges-view : (limits : Limits) (n : Node) (epoch : ℕ) (members : List ℕ) → 1 ≤ epoch → nodes_fit limits members ≡ true → KeepsRanges limits n → KeepsRanges limits (record n { epoch = epoch; members = members; reported = []; gathers = dropped n.gathers })
unfolding FitsGather
KeepsRanges-view limits n epoch members first fit k =
    record {
      sizes = record {
        most = k.sizes.most;
        entries = k.sizes.entries;
        copies = k.sizes.copies;
        gathers = length-dropped n.gathers ∙ k.sizes.gathers;
        slots = k.sizes.slots;
        nodes = k.sizes.nodes;
        streams = k.sizes.streams;
      };
      nodes = record { me = k.nodes.me; epoch = first; members = fit; directory = k.nodes.directory; reported = nodes_fit-none limits };
      entries = k.entries;
      copies = k.copies;
      gathers = λ x. rw (nth-dropped n.gathers x) tt;
      slots = k.slots;
      logs = k.logs;
    }

-- a node is stopped
pub KeepsRanges-stopped : (limits : Limits) (n : Node) → KeepsRanges limits n → KeepsRanges limits (record n { stopped = true })
KeepsRanges-stopped limits n k =
    record {
      sizes = record {
        most = k.sizes.most;
        entries = k.sizes.entries;
        copies = k.sizes.copies;
        gathers = k.sizes.gathers;
        slots = k.sizes.slots;
        nodes = k.sizes.nodes;
        streams = k.sizes.streams;
      };
      nodes = record { me = k.nodes.me; epoch = k.nodes.epoch; members = k.nodes.members; directory = k.nodes.directory; reported = k.nodes.reported };
      entries = k.entries;
      copies = k.copies;
      gathers = k.gathers;
      slots = k.slots;
      logs = k.logs;
    }
