-- The value that bytes spell, where they spell one. Nothing is judged here.
use Rattle.std.specs.Prelude.{◌≡◌, ℕ, zero, suc, nat_lt, if◌then◌else◌, List, [], ◌∷◌, length, take, drop, Option, Some, None, Result, Ok, Err}
use Rattle.std.specs.Int.{Width, byte_len}
use Rattle.byte_grammar.specs.declared.values.BuildFault.{BuildFault}
use Rattle.byte_grammar.specs.declared.values.BuildFault.TheVariants as fault
use Rattle.byte_grammar.specs.Numbers.{worth}

infixl 10 ◌>>=◌
abbrev pub ◌>>=◌ : {A B : Type 0} → Option A → (A → Option B) → Option B
None >>= f = None
(Some x) >>= f = f x

-- What a function returned, seen by view, is what is there, unless memory ran out.
abbrev pub Lacks : {Y : Type 0} → BuildFault → Option Y → Type 0
Lacks fault.Memory read = Unit {0}
Lacks fault.Short read = read ≡ None

abbrev pub Gives : {X Y : Type 0} → (X → Y) → Result X BuildFault → Option Y → Type 0
Gives view (Ok x) read = read ≡ Some (view x)
Gives view (Err e) read = Lacks e read

-- the first n bytes, and the others
unfoldable pub part_at : ℕ → List ℕ → Option (List ℕ × List ℕ)
part_at n bytes = if nat_lt (length bytes) n then None else Some (take n bytes, drop n bytes)

unfoldable pub number_at : Width → List ℕ → Option (ℕ × List ℕ)
number_at w bytes = do
  part ← part_at (byte_len w) bytes
  Some (worth w part.0, part.1)

-- so many items, one after another
unfoldable pub many : {X : Type 0} → (List ℕ → Option (X × List ℕ)) → ℕ → List ℕ → Option (List X × List ℕ)
many item zero bytes = Some ([], bytes)
many item (suc n) bytes = do
  first ← item bytes
  others ← many item n first.1
  Some (first.0 ∷ others.0, others.1)
