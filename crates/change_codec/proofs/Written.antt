-- What the writers write is the spelling of the format.
use Rattle.std.proofs.Common.{◌≡◌, ℕ, List, ◌++◌, length, refl, ap, sym, ◌∙◌, append_assoc}
use Rattle.std.specs.Prelude.{codes}
use Rattle.std.specs.List.{flat_map}
use Rattle.byte_format.specs.Values.{u64_field, actor_field, names_field}
use Rattle.byte_format.proofs.ListLaws.{chain_spelled}
use Rattle.change_codec.specs.Change.{Change}
use Rattle.change_codec.specs.declared.ops.Op.{Op}
use Rattle.change_codec.specs.Encoding.{op_field, any_op, some_ops, ops_field, change_format}

-- operations are spelled as their number, and then one behind the other
ops_spelled : (ops : List Op) → ops_field.spelled ops ≡ u64_field.spelled (length ops) ++ flat_map op_field.spelled ops
unfolding ops_field some_ops
ops_spelled ops =
    ap (λ (rest : List ℕ). u64_field.spelled (length ops) ++ rest) (chain_spelled any_op (λ (state : ℕ). op_field) (λ state op. state) op_field.spelled (λ state op. refl) ops 0)

pub ops_written : (ops : List Op) (front counted whole : List ℕ) → counted ≡ front ++ u64_field.spelled (length ops)
    → whole ≡ counted ++ flat_map op_field.spelled ops → whole ≡ front ++ ops_field.spelled ops
ops_written ops front counted whole first second =
    second ∙ ap (λ (l : List ℕ). l ++ flat_map op_field.spelled ops) first
    ∙ append_assoc front (u64_field.spelled (length ops)) (flat_map op_field.spelled ops)
    ∙ ap (λ (l : List ℕ). front ++ l) (sym (ops_spelled ops))

change_spelled : (c : Change) → change_format.spelled c
    ≡ codes "TTC1" ++ (c.actor.0 ++ (u64_field.spelled c.seq ++ (names_field.spelled c.deps ++ ops_field.spelled c.ops)))
unfolding change_format actor_field
change_spelled c = refl

pub change_written : (c : Change) (mark actor seq deps ops : List ℕ) → mark ≡ codes "TTC1" → actor ≡ mark ++ c.actor.0 → seq ≡ actor ++ u64_field.spelled c.seq
    → deps ≡ seq ++ names_field.spelled c.deps → ops ≡ deps ++ ops_field.spelled c.ops → ops ≡ change_format.spelled c
change_written c mark actor seq deps ops mark_is actor_is seq_is deps_is ops_is =
    let m = codes "TTC1" in let a = c.actor.0 in let s = u64_field.spelled c.seq in let d = names_field.spelled c.deps in let o = ops_field.spelled c.ops in
    let written : ops ≡ (((m ++ a) ++ s) ++ d) ++ o =
    ops_is ∙ ap (λ (l : List ℕ). l ++ o) (deps_is ∙ ap (λ (l : List ℕ). l ++ d) (seq_is ∙ ap (λ (l : List ℕ). l ++ s) (actor_is ∙ ap (λ (l : List ℕ). l ++ a) mark_is))) in
    written ∙ append_assoc ((m ++ a) ++ s) d o ∙ append_assoc (m ++ a) s (d ++ o) ∙ append_assoc m a (s ++ (d ++ o)) ∙ sym (change_spelled c)
