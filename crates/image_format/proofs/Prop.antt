-- An image is sound in one way at most. Assumes nothing.
use Rattle.std.proofs.Common.{ℕ, List, get_or}
use Rattle.std.proofs.Props.{props}
use Rattle.std.specs.Coded.{Coded, code_by, coded_ℕ}
use Rattle.store.specs.declared.kinds.Shape.{Shape}
use Rattle.store.specs.declared.kinds.State.{State}
use Rattle.image_format.specs.Image.{head_of, state_from, SoundImage}
use Rattle.image_format.proofs.Held.{state_back}

state_code : Coded State
state_code = code_by ℕ coded_ℕ (λ z. get_or (head_of z) 0 0) state_from state_back

pub sound_prop : (h : Shape) (img : List ℕ) → IsProp (SoundImage h img)
sound_prop h img = hlevel (props, state_code)
