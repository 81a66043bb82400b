-- The image of a state, which a commit makes durable.
use Rattle.std.specs.Prelude.{ℕ, ◌+◌, ◌*◌, ◌≤◌, List, length, Option}
use Rattle.std.specs.List.{AllByRecursion}
use Rattle.llog_store.specs.Log.{Log, log_text}
use Rattle.reply_cache.specs.declared.seats.Seat.{Seat}
use Rattle.object_store.specs.Objects.{ObjectMap}
use Rattle.object_store.specs.ImageText.{image_text, FitsObjects}
use Rattle.state_image.specs.declared.front.Front.{Front}
use Rattle.state_image.specs.declared.image.Image.{Image}
use Rattle.state_image.specs.FrontText.{taken_count, FitsSeat, last_epoch, most}
use Rattle.state_image.specs.StateText.{AreOwn}
use Rattle.state_image.specs.StateText as spelled
use Rattle.target_state.specs.State.{TargetState}

-- what stands before the objects
abbrev pub front_of : TargetState → Front
front_of s = record { cluster = s.targets; index = s.index; epoch = s.epoch; transno = s.transno; clock = s.clock; next_batch = s.next_batch; mark = s.mark; seats = s.seats }

-- what a commit makes durable
abbrev pub image_of : TargetState → Image
image_of s = record { front = front_of s; objects = s.objects; log = s.log }

abbrev pub state_text : TargetState → List ℕ
state_text s = spelled.state_text (image_of s)

-- the greatest load at which a record may be executed
abbrev pub most_load : ℕ
most_load = 5111808

-- the most bytes of an image that a disk takes
abbrev pub most_image : ℕ
most_image = 32768000

-- how long an image is: a front of 64 bytes, and 16 for each seat that is taken, the objects, 8 bytes, and the log
abbrev pub size_with : List (Option Seat) → ObjectMap → Log → ℕ
size_with seats objects log = 72 + 16 * taken_count seats + length (image_text objects) + length (log_text log)

-- a disk takes it
abbrev pub IsBounded : List (Option Seat) → ObjectMap → Log → Type 0
IsBounded seats objects log = size_with seats objects log ≤ most_image

-- each seat has the number of a request, and the objects have an image
abbrev pub HaveImage : List (Option Seat) → ObjectMap → Type 0
HaveImage seats objects = AllByRecursion FitsSeat seats × FitsObjects objects

-- Its numbers are such as an image has, and each live record of its log names this target, and none that the cluster
-- has not.
pub record IsInRange (s : TargetState) : Type 0 where
  pub epoch_set : 1 ≤ s.epoch
  pub epoch : s.epoch ≤ last_epoch
  pub transno : s.transno ≤ most
  pub clock : s.clock ≤ most
  pub batch_set : 1 ≤ s.next_batch
  pub batch : s.next_batch ≤ most
  pub mark : s.mark ≤ most
  pub own : AreOwn s.targets s.index s.log
