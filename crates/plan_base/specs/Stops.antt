-- Where a planner stops: it has a question, or refuses the operation.
use Rattle.std.specs.Prelude.{◌≡◌, Option, Some, None, Result, Ok, Err}
use Rattle.plan_base.specs.declared.question.Stop.{Stop}
use Rattle.plan_base.specs.declared.question.Stop.TheVariants as stop

infixl 10 ◌>>=◌
abbrev pub ◌>>=◌ : {A B : Type 0} → Result A Stop → (A → Result B Stop) → Result B Stop
(Ok x) >>= f = f x
(Err e) >>= f = Err e

-- the same stop, unless memory ran out
abbrev pub Halts : {Y : Type 0} → Stop → Result Y Stop → Type 0
Halts stop.Memory read = Unit {0}
Halts e read = read ≡ Err e

-- What a function returned, seen by view, is what the definition gives, unless memory ran out.
abbrev pub Reaches : {X Y : Type 0} → (X → Y) → Result X Stop → Result Y Stop → Type 0
Reaches view (Ok x) read = read ≡ Ok (view x)
Reaches view (Err e) read = Halts e read

-- the same of a function that only goes on or stops
abbrev pub HaltsAt : Stop → Option Stop → Type 0
HaltsAt stop.Memory read = Unit {0}
HaltsAt e read = read ≡ Some e

abbrev pub Passes : {X : Type 0} → Result X Stop → Option Stop → Type 0
Passes (Ok x) read = read ≡ None
Passes (Err e) read = HaltsAt e read

-- on, where nothing stops
abbrev pub unless : {A : Type 0} → Option Stop → Result A Stop → Result A Stop
unless None next = next
unless (Some e) next = Err e
