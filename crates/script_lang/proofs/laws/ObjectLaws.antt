-- Objects as words: what is read is spelled so, and what is spelled so is read.
use Rattle.std.proofs.Common.{◌≡◌, ℕ, ◌<◌, ◌≤◌, true, false, List, [], ◌∷◌, Option, Some, None, Ok, refl, sym, ap, ◌∙◌, arith}
use Rattle.std.specs.Prelude.{decimal, map}
use Rattle.std.proofs.lemmas.Bool.{eq-eqb, eqb-true}
use Rattle.std.proofs.lemmas.Bool.Decides.{nat_tests}
use Rattle.zeus_base.specs.Limits.{KeepsDeclaration}
use Rattle.zeus_base.specs.Nodes.{has, with_node, without}
use Rattle.zeus_base.specs.NodeLaws.{RisesFrom, RisesFrom-with_node, RisesFrom-without, IsBelow, IsBelow-with_node, has-with_same, has-with_node, has-without, has-without_same, same_from_members}
use Rattle.zeus_base.specs.declared.config.ObjectDecl.{ObjectDecl}
use Rattle.zeus_model.specs.Names.{IsName}
use Rattle.zeus_model.specs.Scripts.{FitsValue}
use Rattle.zeus_model.specs.Spelling.{value_text}
use Rattle.script_lang.specs.Names.{find}
use Rattle.script_lang.specs.NodeLists.{is_owner, nodes_after}
use Rattle.zeus_base.specs.declared.value.Value.{Value}
use Rattle.script_lang.specs.Objects.{vacant, new_name_of, object_at}
use Rattle.script_lang.specs.Reads.{word_at}
use Rattle.script_lang.proofs.laws.NodeLaws.{IsListed, nodes_after-sound, nodes_after-nodes, HasRoom}
use Rattle.script_lang.proofs.laws.NumberLaws.{range_at-sound, range_at-decimal}
use Rattle.script_lang.proofs.laws.ValueLaws.{name_of_word-sound, name_of_word-name, value_at-sound, value_at-text, number-in-version-1}
use Rattle.script_lang.proofs.Sound.{IfRead, read_bind, read_ok, read_err}

-- the words behind `object`
abbrev pub object_rest : List ℕ → ObjectDecl → List (List ℕ)
object_rest name o = name ∷ value_text o.value ∷ decimal o.owner ∷ map decimal (without o.owner o.replicas)

-- an object that was read
pub record IsObject (version nodes : ℕ) (names ws : List (List ℕ)) (x : List ℕ × ObjectDecl) : Type 0 where
  pub words : ws ≡ object_rest x.0 x.1
  pub name : IsName x.0
  pub new : find names x.0 ≡ None
  pub value : FitsValue version x.1.value
  pub declared : KeepsDeclaration version nodes x.1

vacant-sound : (o : Option ℕ) → IfRead (vacant o) (λ _. o ≡ None)
vacant-sound None = read_ok _ _ refl
vacant-sound (Some i) = read_err _ _

new_name_of-sound : (names : List (List ℕ)) (w : List ℕ) → IfRead (new_name_of names w) (λ name. (name ≡ w) × IsName name × (find names name ≡ None))
unfolding new_name_of
new_name_of-sound names w =
    read_bind _ _ _ (name_of_word-sound w) (λ name p. read_bind _ _ _ (vacant-sound (find names name)) (λ _ q. read_ok _ _ (p.0, rw p.0 p.1, q)))

-- the owner is taken out of what it was put into
without-with : (owner : ℕ) (ns : List ℕ) → has owner ns ≡ false → RisesFrom 0 ns → without owner (with_node owner ns) ≡ ns
without-with owner ns none rises =
    same_from_members 0 0 (without owner (with_node owner ns)) ns (RisesFrom-without 0 owner (with_node owner ns) (RisesFrom-with_node 0 owner ns (omega arith) rises)) rises
    (λ k. grind (arith, nat_tests, has-without k owner (with_node owner ns), has-with_node k owner ns, none))

with-without : (owner : ℕ) (ns : List ℕ) → has owner ns ≡ true → RisesFrom 0 ns → with_node owner (without owner ns) ≡ ns
with-without owner ns some rises =
    same_from_members 0 0 (with_node owner (without owner ns)) ns (RisesFrom-with_node 0 owner (without owner ns) (omega arith) (RisesFrom-without 0 owner ns rises)) rises
    (λ k. grind (arith, nat_tests, has-with_node k owner (without owner ns), has-without k owner ns, some))

owner_is : (owner : ℕ) → is_owner (Some owner) owner ≡ true
unfolding is_owner
owner_is owner = eq-eqb owner owner refl

none_below : (b : ℕ) → IsBelow b []
unfolding has
none_below b k h = absurd cc

-- the further replicas that were read are what the words behind the owner spell
others_spelled : (nodes owner : ℕ) (ws : List (List ℕ)) (others : List ℕ) → IsListed nodes (Some owner) 0 [] ws others → ws ≡ map decimal (without owner (with_node owner others))
others_spelled nodes owner ws others listed =
    let all : others ≡ listed.ns = listed.whole in
    let rises : RisesFrom 0 others = rw all listed.rises in
    let none : has owner others ≡ false = rw all (listed.apart owner (owner_is owner)) in
    rw (listed.words, without-with owner others none rises, ← all) refl

-- a value, an owner and further replicas that were read make a declaration that keeps the rules
keeps-declaration : (version nodes : ℕ) (value : Value) (owner : ℕ) (ws : List (List ℕ)) (others : List ℕ) → FitsValue version value → owner < nodes → IsListed nodes (Some owner) 0 [] ws others
    → KeepsDeclaration version nodes record { value = value; owner = owner; replicas = with_node owner others }
keeps-declaration version nodes value owner ws others fits lt listed =
    let all : others ≡ listed.ns = listed.whole in
    let rises : RisesFrom 0 others = rw all listed.rises in
    record {
      owner = lt;
      rising = RisesFrom-with_node 0 owner others (omega arith) rises;
      replicas = IsBelow-with_node nodes owner others lt (rw all listed.below);
      own_copy = has-with_same owner others;
      number = λ one. number-in-version-1 value (rw one at fits);
    }

-- if an object is read, then the words spell a new name and an object that fits
pub object_at-sound : (version nodes : ℕ) (names ws : List (List ℕ)) → IfRead (object_at version nodes names ws) (IsObject version nodes names ws)
unfolding object_at word_at
object_at-sound version nodes names [] = read_err _ _
object_at-sound version nodes names (w ∷ ws) =
    read_bind _ _ _ (new_name_of-sound names w) (λ name n.
    read_bind _ _ _ (value_at-sound version ws) (λ value v.
    read_bind _ _ _ (range_at-sound 0 nodes value.1) (λ owner o.
    read_bind _ _ _ (nodes_after-sound nodes None (Some owner.0) [] 0 owner.1 (none_below 0)) (λ others l.
    let behind_value = o.0 ∙ ap (λ behind. decimal owner.0 ∷ behind) (others_spelled nodes owner.0 owner.1 others l) in
    let behind_name = v.0 ∙ ap (λ behind. value_text value.0 ∷ behind) behind_value in
    read_ok _ _ record {
      words = ap (λ first. first ∷ ws) (sym n.0) ∙ ap (λ behind. name ∷ behind) behind_name;
      name = n.1;
      new = n.2;
      value = v.1;
      declared = keeps-declaration version nodes value.0 owner.0 owner.1 others v.1 o.3 l;
    }))))

-- ---- what is spelled is read

new_name_of-name : (names : List (List ℕ)) (w : List ℕ) → IsName w → find names w ≡ None → new_name_of names w ≡ Ok w
unfolding new_name_of
new_name_of-name names w name new = rw (name_of_word-name w name, new) refl

owner_apart : (owner : ℕ) (ns : List ℕ) (k : ℕ) → is_owner (Some owner) k ≡ true → has k (without owner ns) ≡ false
unfolding is_owner
owner_apart owner ns k h = rw (eqb-true k owner h) (has-without_same owner ns)

below_without : (b owner : ℕ) (ns : List ℕ) → IsBelow b ns → IsBelow b (without owner ns)
below_without b owner ns h k g = h k (grind (arith, has-without k owner ns, g))

-- if a name is new and an object fits, then reading their words gives both
pub object_at-object : (version nodes : ℕ) (names : List (List ℕ)) (name : List ℕ) (o : ObjectDecl) → nodes ≤ 8 → IsName name → find names name ≡ None → FitsValue version o.value → KeepsDeclaration version nodes o → object_at version nodes names (object_rest name o) ≡ Ok (name, o)
unfolding object_at word_at HasRoom
object_at-object version nodes names name o few is new fits keeps =
    let others : nodes_after nodes None (Some o.owner) [] 0 (map decimal (without o.owner o.replicas)) ≡ Ok (without o.owner o.replicas) =
    nodes_after-nodes nodes None (Some o.owner) [] 0 (without o.owner o.replicas) few (record {
      low = none_below 0;
      rises = RisesFrom-without 0 o.owner o.replicas keeps.rising;
      below = below_without nodes o.owner o.replicas keeps.replicas;
      apart = owner_apart o.owner o.replicas;
      room = tt;
    }) in
    rw (new_name_of-name names name is new, value_at-text version o.value (decimal o.owner ∷ map decimal (without o.owner o.replicas)) fits, range_at-decimal 0 nodes o.owner (map decimal (without o.owner o.replicas)) (omega (arith, keeps.owner)) (omega arith) keeps.owner, others, with-without o.owner o.replicas keeps.own_copy keeps.rising) refl
