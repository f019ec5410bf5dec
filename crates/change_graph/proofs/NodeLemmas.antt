-- The map that is kept, and the two that it is seen as.
use Rattle.std.proofs.Common.{◌≡◌, ℕ, Bool, true, false, cond, refl, sym, ap, ◌∙◌, subst, List, [], ◌∷◌, map, Option, Some, None, is_some}
use Rattle.std.specs.declared.cmp.Ordering.{Ordering}
use Rattle.std.specs.declared.cmp.Ordering.TheVariants.{Less, Equal, Greater}
use Rattle.std.specs.Ordering.{match_ordering}
use Rattle.std.specs.Map.{lookup, keys_of}
use Rattle.std.specs.Option.{option_map}
use Rattle.std.specs.BTreeMap.{insert_entry}
use Rattle.std.specs.List.Sorted.{IsStrictlySortedBy}
use Rattle.tt_base.specs.Ids.{name_cmp}
use Rattle.tt_base.specs.declared.ids.Name.{Name}
use Rattle.change_graph.specs.declared.nodes.Node.{Node}
use Rattle.change_codec.specs.Change.{Change}
use Rattle.change_graph.specs.Nodes.{NodesView}

module _ {X Y : Type 0} (f : X → Y) where
  -- the entries, with f at each value
  abbrev pub each : List (Name × X) → List (Name × Y)
  each entries = map (λ e. (e.0, f e.1)) entries

  found_cases : (b : Bool) (x : X) (o : Option X) → cond b (Some (f x)) (option_map f o) ≡ option_map f (cond b (Some x) o)
  found_cases true x o = refl
  found_cases false x o = refl

  pub lookup_each : (test : Name → Bool) (entries : List (Name × X)) → lookup test (each entries) ≡ option_map f (lookup test entries)
  lookup_each test [] = refl
  lookup_each test (e ∷ es) =
      ap (λ (o : Option Y). cond (test e.0) (Some (f e.1)) o) (lookup_each test es)
      ∙ found_cases (test e.0) e.1 (lookup test es)

  insert_cases : (r : Ordering) (name : Name) (x : X) (e : Name × X) (es rest : List (Name × X)) (rest_each : List (Name × Y)) → each rest ≡ rest_each
      → each (match_ordering r ((name, x) ∷ e ∷ es) ((e.0, x) ∷ es) (e ∷ rest))
      ≡ match_ordering r ((name, f x) ∷ (e.0, f e.1) ∷ each es) ((e.0, f x) ∷ each es) ((e.0, f e.1) ∷ rest_each)
  insert_cases Less name x e es rest rest_each is = refl
  insert_cases Equal name x e es rest rest_each is = refl
  insert_cases Greater name x e es rest rest_each is = ap (λ (l : List (Name × Y)). (e.0, f e.1) ∷ l) is

  pub insert_each : (entries : List (Name × X)) (name : Name) (x : X)
      → each (insert_entry name_cmp entries name x) ≡ insert_entry name_cmp (each entries) name (f x)
  insert_each [] name x = refl
  insert_each (e ∷ es) name x =
      insert_cases (name_cmp name e.0) name x e es (insert_entry name_cmp es name x) (insert_entry name_cmp (each es) name (f x)) (insert_each es name x)

  pub keys_each : (entries : List (Name × X)) → keys_of (each entries) ≡ keys_of entries
  keys_each [] = refl
  keys_each (e ∷ es) = ap (λ (l : List Name). e.0 ∷ l) (keys_each es)

abbrev change_in : Node → Change
change_in node = node.change

abbrev depth_of : Node → ℕ
depth_of node = node.depth

-- what the map is seen as
abbrev pub seen_as : List (Name × Node) → NodesView
seen_as entries = record { history = each change_in entries; depths = each depth_of entries }

pub inserted : (old new : List (Name × Node)) (name : Name) (node : Node) → new ≡ insert_entry name_cmp old name node
    → seen_as new ≡ record {
      history = insert_entry name_cmp (seen_as old).history name node.change;
      depths = insert_entry name_cmp (seen_as old).depths name node.depth;
    }
inserted old new name node is =
    ap seen_as is
    ∙ (λ i. record { history = insert_each change_in old name node i; depths = insert_each depth_of old name node i })

pub rising : (new : List (Name × Node)) → IsStrictlySortedBy name_cmp (keys_of new) → IsStrictlySortedBy name_cmp (keys_of (seen_as new).history)
rising new sorted = subst (IsStrictlySortedBy name_cmp) (sym (keys_each change_in new)) sorted

pub change_found : (entries : List (Name × Node)) (test : Name → Bool) (o : Option Node) → o ≡ lookup test entries
    → option_map change_in o ≡ lookup test (seen_as entries).history
change_found entries test o found = ap (option_map change_in) found ∙ sym (lookup_each change_in test entries)

pub depth_found : (entries : List (Name × Node)) (test : Name → Bool) (o : Option Node) → o ≡ lookup test entries
    → option_map depth_of o ≡ lookup test (seen_as entries).depths
depth_found entries test o found = ap (option_map depth_of) found ∙ sym (lookup_each depth_of test entries)

mapped_some : (o : Option Node) → is_some o ≡ is_some (option_map change_in o)
mapped_some None = refl
mapped_some (Some node) = refl

pub held_found : (entries : List (Name × Node)) (test : Name → Bool) → is_some (lookup test entries) ≡ is_some (lookup test (seen_as entries).history)
held_found entries test =
    mapped_some (lookup test entries) ∙ ap (λ (o : Option Change). is_some o) (sym (lookup_each change_in test entries))
