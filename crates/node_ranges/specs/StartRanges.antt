-- A node keeps the ranges of its configuration at the start.
use Rattle.std.specs.Prelude.{ℕ, zero, suc, ◌≡◌, ◌<◌, ◌≤◌, true, List, [], ◌∷◌, length, map, replicate, All, Some, None, refl}
use Rattle.std.proofs.Common.{arith}
use Rattle.std.proofs.lemmas.Bool.{cond_both, eq-eqb, false≢true}
use Rattle.std.proofs.lemmas.List.{length-map, length-replicate}
use Rattle.std.proofs.lemmas.List.Elements.{All-head, All-tail, All-nil}
use Rattle.zeus_base.specs.Limits.{KeepsDeclaration, KeepsLimits, limits_of}
use Rattle.zeus_base.specs.Nodes.{has}
use Rattle.zeus_base.specs.TableLaws.{nth-replicate}
use Rattle.zeus_base.specs.Values.{is_num}
use Rattle.zeus_base.specs.declared.config.Config.{Config}
use Rattle.zeus_base.specs.declared.config.Limits.{Limits}
use Rattle.zeus_base.specs.declared.config.ObjectDecl.{ObjectDecl}
use Rattle.zeus_base.specs.declared.value.Value.{Value}
use Rattle.zeus_base.specs.declared.value.Value.TheVariants.{Num, Text}
use Rattle.zeus_packet.specs.Fits.{value_fits}
use Rattle.zeus_packet.specs.declared.letter.State.TheVariants.{Valid}
use Rattle.zeus_model.specs.State.{no_entry, no_slot, no_log, value_of}
use Rattle.zeus_model.specs.Tables.{nth, where_true}
use Rattle.zeus_model.specs.World.{start_entry, start_copy, start_gather, start_node}
use Rattle.node_ranges.specs.NodeSets.{nodes_fit-members, nodes_fit-below}
use Rattle.node_ranges.specs.Places.{place_fits-from, stamp_fits-from}
use Rattle.node_ranges.specs.Ranges.{FitsHeld, FitsEntry, FitsGather, FitsKept, FitsPending, FitsCurrent, FitsSlot, FitsLog, KeepsRanges}

nth-all : {A : Type 0} (d : A) (n i : ℕ) → nth d (replicate n d) i ≡ d
unfolding nth
nth-all d zero i = refl
nth-all d (suc n) zero = refl
nth-all d (suc n) (suc i) = nth-all d n i

-- an empty slot fits, and so does an empty stream
pub FitsSlot-empty : (limits : Limits) (me : ℕ) → FitsSlot limits me no_slot
unfolding FitsCurrent
FitsSlot-empty limits me = record { current = tt; few = omega arith; numbered = omega arith; pending = All-nil (FitsPending limits me) }

-- a log without entries fits
pub FitsLog-empty : (limits : Limits) → FitsLog limits no_log
FitsLog-empty limits = record { few = omega arith; numbered = λ some. absurd (omega arith); kept = All-nil (FitsKept limits) }

declared_entry : (c : Config) (o : ObjectDecl) → 1 ≤ c.nodes → KeepsDeclaration c.version c.nodes o → FitsEntry (limits_of c) (start_entry o)
unfolding start_entry FitsHeld
declared_entry c o some h =
    record {
      stamp = stamp_fits-from (limits_of c) (record { ver = 0; driver = 0 }) some;
      place = place_fits-from (limits_of c) (record { owner = o.owner; replicas = o.replicas }) (record {
        owner = h.owner;
        replicas = nodes_fit-members (limits_of c) o.replicas h.replicas;
        own_copy = h.own_copy;
      });
      proposal = tt;
    }

start_entries : (c : Config) (os : List ObjectDecl) (x : ℕ) → 1 ≤ c.nodes → All (KeepsDeclaration c.version c.nodes) os → x < length os → FitsEntry (limits_of c) (nth no_entry (map start_entry os) x)
unfolding nth
start_entries c [] x some h less = absurd (omega arith)
start_entries c (o ∷ os) zero some h less = declared_entry c o some (All-head (KeepsDeclaration c.version c.nodes) o os h)
start_entries c (o ∷ os) (suc x) some h less = start_entries c os x some (All-tail (KeepsDeclaration c.version c.nodes) o os h) (omega arith)

declared_value : (c : Config) (v : Value) → 1 ≤ c.version → c.version ≤ 2 → (c.version ≡ 1 → is_num v ≡ true) → value_fits (limits_of c) v ≡ true
unfolding value_fits is_num
declared_value c (Num n) least most h = refl
declared_value c (Text t) least most h =
    let second : c.version ≡ 2 = omega (arith, (λ (first : c.version ≡ 1). false≢true (h first))) in eq-eqb c.version 2 second

declared_copy : (c : Config) (me : ℕ) (o : ObjectDecl) → KeepsLimits c → KeepsDeclaration c.version c.nodes o → value_fits (limits_of c) (value_of (start_copy me o)) ≡ true
unfolding start_copy where_true value_of value_fits
declared_copy c me o keeps h =
    cond_both (has me o.replicas) (Some record { value = o.value; ver = 0; state = Valid }) None (λ d. value_fits (limits_of c) (value_of d) ≡ true)
    (λ _. declared_value c o.value keeps.version.0 keeps.version.1 h.number) (λ _. refl)

start_copies : (c : Config) (me : ℕ) (os : List ObjectDecl) (x : ℕ) → KeepsLimits c → All (KeepsDeclaration c.version c.nodes) os → value_fits (limits_of c) (value_of (nth None (map (start_copy me) os) x)) ≡ true
unfolding nth value_of value_fits
start_copies c me [] x keeps h = refl
start_copies c me (o ∷ os) zero keeps h = declared_copy c me o keeps (All-head (KeepsDeclaration c.version c.nodes) o os h)
start_copies c me (o ∷ os) (suc x) keeps h = start_copies c me os x keeps (All-tail (KeepsDeclaration c.version c.nodes) o os h)

start_gathers : (limits : Limits) (os : List ObjectDecl) (x : ℕ) → FitsGather limits (nth None (map start_gather os) x)
unfolding nth start_gather FitsGather
start_gathers limits [] x = tt
start_gathers limits (o ∷ os) zero = tt
start_gathers limits (o ∷ os) (suc x) = start_gathers limits os x

nth-row : (m n i k : ℕ) → nth no_log (nth [] (replicate m (replicate n no_log)) i) k ≡ no_log
unfolding nth
nth-row zero n i k = refl
nth-row (suc m) n zero k = nth-all no_log n k
nth-row (suc m) n (suc i) k = nth-row m n i k

-- a configuration within the limits starts its nodes within its ranges
pub KeepsRanges-start : (c : Config) (me : ℕ) → KeepsLimits c → me < c.nodes → KeepsRanges (limits_of c) (start_node c me)
unfolding start_node
KeepsRanges-start c me keeps less =
    record {
      sizes = record {
        most = record { nodes = keeps.nodes.1; slots = keeps.slots.1; objects = keeps.objects.1 };
        entries = length-map c.objects start_entry;
        copies = length-map c.objects (start_copy me);
        gathers = length-map c.objects start_gather;
        slots = length-replicate c.slots no_slot;
        nodes = length-replicate c.nodes (replicate c.slots no_log);
        streams = λ m within. rw (nth-replicate [] (replicate c.slots no_log) c.nodes m within) (length-replicate c.slots no_log);
      };
      nodes = record {
        me = less;
        epoch = omega arith;
        members = nodes_fit-below (limits_of c) c.nodes (omega arith);
        directory = nodes_fit-members (limits_of c) c.directory keeps.directory_nodes;
        reported = nodes_fit-below (limits_of c) c.nodes (omega arith);
      };
      entries = λ x within. start_entries c c.objects x keeps.nodes.0 keeps.declared within;
      copies = λ x. start_copies c me c.objects x keeps keeps.declared;
      gathers = λ x. start_gathers (limits_of c) c.objects x;
      slots = λ s. rw (nth-all no_slot c.slots s) (FitsSlot-empty (limits_of c) me);
      logs = λ s. rw (nth-row c.nodes c.slots s.node s.slot) (FitsLog-empty (limits_of c));
    }
