-- What an editor shows of what the daemon has written for it.
use Rattle.std.proofs.Common.{◌≡◌, true, ◌&&◌, length, Some, None, refl, ap, ◌∙◌, eq-eqb}
use Rattle.std.specs.Prelude.{◌==◌, if◌then◌else◌}
use Rattle.std.specs.Str.{bytes_eq}
use Rattle.std.proofs.lemmas.Slice.Eq.{bytes_eq-Decides}
use Rattle.delta.specs.Cells.{Cells, base_length, IsNormal}
use Rattle.text_position.specs.Edits.{delta_of_edits}
use Rattle.text_position.specs.Changes.{edits_of}
use Rattle.text_position.proofs.StepsOfLemmas.{delta_comes_back}
use Rattle.editor_client.specs.Editor.{Editor}
use Rattle.editor_client.specs.Hearing.{is_open, waits_for, if_fitting, to_show}
use Rattle.editor_client.specs.declared.states.ClientState.{ClientState}
use Rattle.editor_client.specs.declared.states.ClientState.TheVariants.{Open}

waits : (e : Editor) → e.state ≡ Open → waits_for e.uri e.own e ≡ true
waits e now_open =
    ap (λ (s : ClientState). is_open s && (e.own == e.own) && bytes_eq e.uri e.uri) now_open
    ∙ ap (λ b. b && bytes_eq e.uri e.uri) (eq-eqb e.own e.own refl)
    ∙ (bytes_eq-Decides e.uri e.uri).1 refl

pub written_is_shown : (e : Editor) (d : Cells) → e.state ≡ Open → IsNormal d → base_length d ≡ length e.text → to_show e.uri e.own (edits_of e.text d) e ≡ Some d
written_is_shown e d now_open normal long =
    ap (λ b. if b then if_fitting (delta_of_edits e.text (edits_of e.text d)) else None) (waits e now_open)
    ∙ ap if_fitting (delta_comes_back e.text d normal long)
