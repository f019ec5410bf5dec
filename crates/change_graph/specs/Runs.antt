-- What is told of the things at a run of indices.
use Rattle.std.specs.Prelude.{ℕ, ◌-◌, ◌||◌, Bool, List, length, take, drop, Option, Some, None}
use Rattle.std.specs.List.{list_any}
use Rattle.change_codec.specs.declared.ops.Ref.{Ref}
use Rattle.change_graph.specs.declared.runs.Scan.{Scan}
use Rattle.change_graph.specs.Refusals.{Thing, Object, Character, is_object, is_elsewhere}

-- an object, or a character of this one
abbrev pub thing_in : Option Ref → Thing
thing_in None = Object
thing_in (Some object) = Character object

-- what is told of a run: how many of its indices have nothing, and whether there are objects, or characters of another object
pub record Told : Type 0 where
  pub left : ℕ
  pub objects : Bool
  pub others : Bool

abbrev pub so_far : Scan → Told
so_far scan = record { left = scan.left; objects = scan.objects; others = scan.others }

-- what is told of things in all, by who has seen some before
abbrev pub told_of : Ref → Scan → List Thing → Told
told_of object scan run = record {
  left = scan.left - length run;
  objects = scan.objects || list_any is_object run;
  others = scan.others || list_any (is_elsewhere object) run;
}

-- what is told at the end, where these are the things to come
abbrev pub told : Ref → Scan → List Thing → Told
told object scan rest = told_of object scan (take scan.left (drop scan.skip rest))
