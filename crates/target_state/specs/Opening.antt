-- What a target knows again from its image.
use Rattle.std.specs.Prelude.{ℕ, List, [], None, Result, Ok, Err}
use Rattle.std.specs.FinMap as map
use Rattle.object_store.specs.declared.fault.ImageFault.{ImageFault}
use Rattle.state_image.specs.declared.image.Image.{Image}
use Rattle.state_image.specs.StateReading.{image_in}
use Rattle.target_state.specs.State.{TargetState, none_ended}
use Rattle.target_state.specs.Image.{image_of}

-- The state of an image: no record waits to be committed, no one holds it, and no attempt has ended.
abbrev pub restored : Image → TargetState
restored i =
    record { targets = i.front.cluster; index = i.front.index; epoch = i.front.epoch; transno = i.front.transno; clock = i.front.clock; next_batch = i.front.next_batch; mark = i.front.mark; seats = i.front.seats; objects = i.objects; log = i.log; waiting = []; writers = map.empty; holder = None; ended = none_ended }

abbrev pub restored_from : Result Image ImageFault → Result TargetState ImageFault
restored_from (Ok image) = Ok (restored image)
restored_from (Err fault) = Err fault

-- the state that the bytes hold, or the place of the first field that isn't as stated, of a target of so many
abbrev pub state_in : ℕ → ℕ → List ℕ → Result TargetState ImageFault
state_in targets index bytes = restored_from (image_in targets index bytes)

-- what a stop leaves of a state that is committed
abbrev pub reopened : TargetState → TargetState
reopened s = restored (image_of s)
