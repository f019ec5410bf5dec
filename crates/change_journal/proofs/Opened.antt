-- Which contents are opened, and as which records.
use Rattle.std.proofs.Common.{◌≡◌, ℕ, List, [], ◌∷◌, ◌++◌, length, refl, sym, ap, subst, ◌∙◌, arith, length-append}
use Rattle.journal_format.specs.declared.records.Record.{Record}
use Rattle.journal_format.specs.Image.{mark, group_field, open_groups, all_records, StandsFor, IsPlaced, IsFirstBad, IsImage}
use Rattle.journal_format.proofs.Unique.{one_image, bad_is_no_image}
use Rattle.change_journal.specs.Opening.{opened, IsNoJournal}

-- bytes behind the mark do not end there
marked_opens : (bytes tail : List ℕ) (gate : ℕ) → bytes ≡ mark ++ (gate ∷ tail) → opened bytes ≡ bytes
marked_opens [] tail gate is = absurd (omega (arith, ap length is, length-append mark (gate ∷ tail)))
marked_opens (byte ∷ bytes) tail gate is = refl

-- groups and a byte behind them begin with some byte
first_of : (groups : List (List Record)) (gate : ℕ) (rest : List ℕ) → (next : ℕ) × ((tail : List ℕ) × (open_groups groups ++ gate ∷ rest ≡ next ∷ tail))
first_of [] gate rest = (gate, (rest, refl))
first_of (group ∷ groups) gate rest =
    (1, ((group_field.spelled group ++ open_groups groups) ++ gate ∷ rest, refl))

-- such bytes begin with the mark and a byte behind it
begins : (bytes : List ℕ) (groups : List (List Record)) (gate : ℕ) (rest : List ℕ) → bytes ≡ mark ++ (open_groups groups ++ gate ∷ rest)
    → (next : ℕ) × ((tail : List ℕ) × (bytes ≡ mark ++ (next ∷ tail)))
begins bytes groups gate rest is =
    let first = first_of groups gate rest in
    (first.0, (first.1.0, is ∙ ap (λ (l : List ℕ). mark ++ l) first.1.1))

pub image_marked : (bytes : List ℕ) (groups : List (List Record)) → IsImage bytes groups → IsNoJournal bytes → ⊥
image_marked bytes groups image none = let first = begins bytes groups image.gate image.rest image.spelling in none first.0 first.1.0 first.1.1

pub bad_marked : (bytes : List ℕ) (place : ℕ) → IsFirstBad bytes place → IsNoJournal bytes → ⊥
bad_marked bytes place bad none = let first = begins bytes bad.groups 1 bad.behind bad.spelling in none first.0 first.1.0 first.1.1

image_opens : (bytes : List ℕ) (groups : List (List Record)) → IsImage bytes groups → opened bytes ≡ bytes
image_opens bytes groups image =
    let first = begins bytes groups image.gate image.rest image.spelling in marked_opens bytes first.1.0 first.0 first.1.1

pub opens_as : (bytes : List ℕ) (recorded held : List Record) (gates : List ℕ) (end : ℕ) → StandsFor bytes recorded → IsPlaced (opened bytes) held gates end → held ≡ recorded
opens_as bytes recorded held gates end stands placed =
    let image = subst (λ (b : List ℕ). IsImage b placed.groups) (image_opens bytes stands.0 stands.1) placed.image in
    placed.records_are ∙ ap all_records (one_image bytes placed.groups stands.0 image stands.1) ∙ sym stands.2

pub opens_marked : (bytes : List ℕ) (recorded : List Record) → StandsFor bytes recorded → IsNoJournal (opened bytes) → ⊥
opens_marked bytes recorded stands none = image_marked bytes stands.0 stands.1 (subst IsNoJournal (image_opens bytes stands.0 stands.1) none)

pub opens_good : (bytes : List ℕ) (recorded : List Record) (place : ℕ) → StandsFor bytes recorded → IsFirstBad (opened bytes) place → ⊥
opens_good bytes recorded place stands bad =
    bad_is_no_image bytes place stands.0 (subst (λ (b : List ℕ). IsFirstBad b place) (image_opens bytes stands.0 stands.1) bad) stands.1
