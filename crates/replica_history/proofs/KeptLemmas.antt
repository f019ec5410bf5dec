-- What is kept of objects, and what stands at their paths.
use Rattle.std.proofs.Common.{◌≡◌, ℕ, Bool, true, false, cond, refl, ap, ◌∙◌, subst, List, [], ◌∷◌, length, map, filter, Option, Some, None, is_some, arith}
use Rattle.std.specs.List.{count_by}
use Rattle.std.specs.Option.{option_map, IfSome}
use Rattle.delta.specs.Cells.{one_if}
use Rattle.tt_base.specs.Elements.{is_alive}
use Rattle.tt_base.specs.declared.elements.Element.{Element}
use Rattle.replica_dir.specs.Ids.{is_path}
use Rattle.replica_dir.specs.DirectoryView.{DirectoryView}
use Rattle.replica_dir.proofs.IdLemmas.{path_same}
use Rattle.replica_text.specs.Effect.{text_of}
use Rattle.replica_text.proofs.EffectLemmas.{count_more}
use Rattle.replica_history.specs.declared.texts.KeptText.{KeptText}
use Rattle.replica_history.specs.declared.standings.Standing.{Standing}
use Rattle.replica_history.specs.Texts.{TextsView, is_kept_at}
use Rattle.replica_history.specs.Standings.{standing_at, noted_at}

pub text_length : (xs : List Element) → length (text_of xs) ≡ count_by is_alive xs
text_length [] = refl
text_length (x ∷ xs) = by x.alive refl (text_length xs) where
  by : (b : Bool) → x.alive ≡ b → length (text_of xs) ≡ count_by is_alive xs
      → length (map (λ (e : Element). e.ch) (cond x.alive (x ∷ filter is_alive xs) (filter is_alive xs))) ≡ count_by is_alive (x ∷ xs)
  by true is rest =
      let more = count_more x xs in
      let one = ap one_if is in
      ap (λ (b : Bool). length (map (λ (e : Element). e.ch) (cond b (x ∷ filter is_alive xs) (filter is_alive xs)))) is
      ∙ omega (arith, rest, more, one)
  by false is rest =
      let more = count_more x xs in
      let none = ap one_if is in
      ap (λ (b : Bool). length (map (λ (e : Element). e.ch) (cond b (x ∷ filter is_alive xs) (filter is_alive xs)))) is
      ∙ omega (arith, rest, more, none)

module _ (texts : TextsView) (directory : DirectoryView) (standings : List (List ℕ × Standing)) (kept : Option KeptText) (at : List ℕ) where
  abbrev stands : List ℕ → Standing
  stands path = standing_at texts directory path

  exactly : (o : Option Standing) (path : List ℕ) → IfSome o (λ noted. noted ≡ stands path) → is_some o ≡ true → o ≡ Some (stands path)
  exactly None path is some = cc
  exactly (Some s) path is some = ap (λ (x : Standing). Some x) is

  -- what is noted already is noted right
  pub noted_already : Some at ≡ option_map (λ (k : KeptText). k.path) kept → is_some (noted_at standings at) ≡ true
      → ((path : List ℕ) → IfSome (noted_at standings path) (λ noted. noted ≡ stands path))
      → (path : List ℕ) → noted_at standings path ≡ cond (is_kept_at path kept) (Some (stands path)) (noted_at standings path)
  noted_already found there right path = by kept found where
    by : (o : Option KeptText) → Some at ≡ option_map (λ (k : KeptText). k.path) o
        → noted_at standings path ≡ cond (is_kept_at path o) (Some (stands path)) (noted_at standings path)
    by None found = cc
    by (Some k) found = pick (is_path k.path path) refl where
      pick : (b : Bool) → is_path k.path path ≡ b → noted_at standings path ≡ cond b (Some (stands path)) (noted_at standings path)
      pick true here =
          let one : at ≡ k.path = cc in
          exactly (noted_at standings path) path (right path)
          (subst (λ (p : List ℕ). is_some (noted_at standings p) ≡ true) (one ∙ path_same k.path path here) there)
      pick false apart = refl

  -- and what is noted now
  pub noted_now : (later : List (List ℕ × Standing)) (key : List ℕ) (standing : Standing) → Some at ≡ option_map (λ (k : KeptText). k.path) kept
      → key ≡ at → standing ≡ stands at → ((path : List ℕ) → noted_at later path ≡ cond (is_path key path) (Some standing) (noted_at standings path))
      → (path : List ℕ) → noted_at later path ≡ cond (is_kept_at path kept) (Some (stands path)) (noted_at standings path)
  noted_now later key standing found key_is right updates path = updates path ∙ by kept found where
    by : (o : Option KeptText) → Some at ≡ option_map (λ (k : KeptText). k.path) o
        → cond (is_path key path) (Some standing) (noted_at standings path) ≡ cond (is_kept_at path o) (Some (stands path)) (noted_at standings path)
    by None found = cc
    by (Some k) found =
        let one : at ≡ k.path = cc in
        ap (λ (p : List ℕ). cond (is_path p path) (Some standing) (noted_at standings path)) (key_is ∙ one)
        ∙ pick one (is_path k.path path) refl where
          pick : at ≡ k.path → (b : Bool) → is_path k.path path ≡ b
              → cond b (Some standing) (noted_at standings path) ≡ cond b (Some (stands path)) (noted_at standings path)
          pick one true here = ap (λ (s : Standing). Some s) (right ∙ ap stands (one ∙ path_same k.path path here))
          pick one false apart = refl
