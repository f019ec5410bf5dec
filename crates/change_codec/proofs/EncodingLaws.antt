-- The encoding of changes is lawful.
use Rattle.std.proofs.Common.{◌≡◌, ℕ, zero, suc, List, length, refl, ap, sym}
use Rattle.std.specs.Prelude.{codes}
use Rattle.byte_format.specs.declared.faults.Kind.TheVariants.{Magic, Tag}
use Rattle.byte_format.specs.Fields.{byte}
use Rattle.byte_format.specs.Parts.{pair, checked}
use Rattle.byte_format.specs.Values.{u64_field, count_field, actor_field, name_field, names_field, path_field, text_field}
use Rattle.byte_format.proofs.Lawful.{Lawful}
use Rattle.byte_format.proofs.FieldLaws.{byte_lawful, constant_lawful, never_lawful}
use Rattle.byte_format.proofs.PartLaws.{pair_lawful, seen_as_lawful, checked_lawful, marked_lawful, tagged_lawful}
use Rattle.byte_format.proofs.ListLaws.{counted_lawful, chain_lawful, chain_long}
use Rattle.byte_format.proofs.ValueLaws.{u64_lawful, count_lawful, actor_lawful, name_lawful, names_lawful, path_lawful, text_lawful}
use Rattle.change_codec.specs.declared.ops.Ref.{Ref}
use Rattle.change_codec.specs.declared.ops.Ref.TheVariants.{Here, There}
use Rattle.change_codec.specs.declared.ops.Parent.{Parent}
use Rattle.change_codec.specs.declared.ops.Parent.TheVariants.{Root, After}
use Rattle.change_codec.specs.declared.ops.Op.{Op}
use Rattle.change_codec.specs.declared.ops.Op.TheVariants.{Make, Remove, Insert, Delete}
use Rattle.change_codec.specs.Encoding.{is_flag, ref_tag, index_here, place_there, ref_behind, ref_field, parent_tag, place_after, parent_behind, parent_field}
use Rattle.change_codec.specs.Encoding.{is_op_tag, op_tag, path_made, object_removed, text_inserted, run_deleted, op_behind, op_field, any_op, some_ops, ops_field, change_format}

flag_lawful : Lawful (checked is_flag Tag byte)
flag_lawful = checked_lawful is_flag Tag byte byte_lawful

ref_behind_lawful : (b : ℕ) → Lawful (ref_behind b)
ref_behind_lawful zero = seen_as_lawful (λ index. Here index) index_here u64_field u64_lawful (λ index fits. refl)
ref_behind_lawful (suc zero) =
    seen_as_lawful (λ x. There x.0 x.1) place_there (pair name_field u64_field) (pair_lawful name_field u64_field name_lawful u64_lawful) (λ x fits. refl)
ref_behind_lawful (suc (suc b)) = never_lawful Tag

ref_selected : (b : ℕ) (place : Ref) → (ref_behind b).Fits place → ref_tag place ≡ b
ref_selected zero place fits = ap ref_tag (sym fits.1)
ref_selected (suc zero) place fits = ap ref_tag (sym fits.1)
ref_selected (suc (suc b)) place fits = absurd fits

pub ref_lawful : Lawful ref_field
unfolding ref_field
ref_lawful = tagged_lawful ref_tag (checked is_flag Tag byte) ref_behind flag_lawful ref_behind_lawful ref_selected

parent_behind_lawful : (b : ℕ) → Lawful (parent_behind b)
parent_behind_lawful zero = constant_lawful Root
parent_behind_lawful (suc zero) = seen_as_lawful (λ place. After place) place_after ref_field ref_lawful (λ place fits. refl)
parent_behind_lawful (suc (suc b)) = never_lawful Tag

parent_selected : (b : ℕ) (parent : Parent) → (parent_behind b).Fits parent → parent_tag parent ≡ b
parent_selected zero parent fits = ap parent_tag (sym fits)
parent_selected (suc zero) parent fits = ap parent_tag (sym fits.1)
parent_selected (suc (suc b)) parent fits = absurd fits

pub parent_lawful : Lawful parent_field
unfolding parent_field
parent_lawful = tagged_lawful parent_tag (checked is_flag Tag byte) parent_behind flag_lawful parent_behind_lawful parent_selected

op_behind_lawful : (b : ℕ) → Lawful (op_behind b)
op_behind_lawful zero = never_lawful Tag
op_behind_lawful (suc zero) = seen_as_lawful (λ path. Make path) path_made path_field path_lawful (λ path fits. refl)
op_behind_lawful (suc (suc zero)) = seen_as_lawful (λ object. Remove object) object_removed ref_field ref_lawful (λ object fits. refl)
op_behind_lawful (suc (suc (suc zero))) =
    seen_as_lawful (λ x. Insert x.0 x.1.0 x.1.1) text_inserted (pair ref_field (pair parent_field text_field))
    (pair_lawful ref_field (pair parent_field text_field) ref_lawful (pair_lawful parent_field text_field parent_lawful text_lawful)) (λ x fits. refl)
op_behind_lawful (suc (suc (suc (suc zero)))) =
    seen_as_lawful (λ x. Delete x.0 x.1.0 x.1.1) run_deleted (pair ref_field (pair ref_field count_field))
    (pair_lawful ref_field (pair ref_field count_field) ref_lawful (pair_lawful ref_field count_field ref_lawful count_lawful)) (λ x fits. refl)
op_behind_lawful (suc (suc (suc (suc (suc b))))) = never_lawful Tag

op_selected : (b : ℕ) (op : Op) → (op_behind b).Fits op → op_tag op ≡ b
op_selected zero op fits = absurd fits
op_selected (suc zero) op fits = ap op_tag (sym fits.1)
op_selected (suc (suc zero)) op fits = ap op_tag (sym fits.1)
op_selected (suc (suc (suc zero))) op fits = ap op_tag (sym fits.1)
op_selected (suc (suc (suc (suc zero)))) op fits = ap op_tag (sym fits.1)
op_selected (suc (suc (suc (suc (suc b))))) op fits = absurd fits

pub op_lawful : Lawful op_field
unfolding op_field
op_lawful = tagged_lawful op_tag (checked is_op_tag Tag byte) op_behind (checked_lawful is_op_tag Tag byte byte_lawful) op_behind_lawful op_selected

some_ops_lawful : (n : ℕ) → Lawful (some_ops n)
unfolding some_ops
some_ops_lawful n = chain_lawful any_op (λ (state : ℕ). op_field) (λ state op. state) (λ state. op_lawful) n 0

some_ops_long : (n : ℕ) (ops : List Op) → (some_ops n).Fits ops → length ops ≡ n
unfolding some_ops
some_ops_long n ops fits = chain_long any_op (λ (state : ℕ). op_field) (λ state op. state) n 0 ops fits

pub ops_lawful : Lawful ops_field
unfolding ops_field
ops_lawful = counted_lawful u64_field some_ops u64_lawful some_ops_lawful some_ops_long

pub change_lawful : Lawful change_format
unfolding change_format
change_lawful =
    marked_lawful (codes "TTC1") Magic _
    (seen_as_lawful (λ x. record { actor = x.0; seq = x.1.0; deps = x.1.1.0; ops = x.1.1.1 })
    (λ change. (change.actor, (change.seq, (change.deps, change.ops)))) (pair actor_field (pair u64_field (pair names_field ops_field)))
    (pair_lawful actor_field (pair u64_field (pair names_field ops_field)) actor_lawful
    (pair_lawful u64_field (pair names_field ops_field) u64_lawful (pair_lawful names_field ops_field names_lawful ops_lawful)))
    (λ x fits. refl))
