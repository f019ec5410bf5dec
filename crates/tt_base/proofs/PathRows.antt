-- Examples of paths, and of the first rule that a text breaks.
use Rattle.std.proofs.Common.{◌≡◌, Some, None, codes, replicate, refl}
use Rattle.tt_base.specs.Path.{path_fault}
use Rattle.tt_base.specs.declared.paths.PathFault.TheVariants.{TooLong, Absolute, Empty, DotPart, Reserved, TooDeep}

a_file_in_a_folder : path_fault (codes "a/b.txt") ≡ None
a_file_in_a_folder = refl

no_text : path_fault (codes "") ≡ Some Empty
no_text = refl

two_slashes : path_fault (codes "a//b") ≡ Some Empty
two_slashes = refl

a_slash_in_front : path_fault (codes "/a") ≡ Some Absolute
a_slash_in_front = refl

the_folder_above : path_fault (codes "a/../b") ≡ Some DotPart
the_folder_above = refl

the_folder_of_git : path_fault (codes ".git/x") ≡ Some Reserved
the_folder_of_git = refl

thirty_three_parts : path_fault (codes "a/a/a/a/a/a/a/a/a/a/a/a/a/a/a/a/a/a/a/a/a/a/a/a/a/a/a/a/a/a/a/a/a") ≡ Some TooDeep
thirty_three_parts = refl

many_letters : path_fault (replicate 1025 97) ≡ Some TooLong
many_letters = refl
