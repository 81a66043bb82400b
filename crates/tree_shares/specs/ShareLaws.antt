-- What is so of the shares of a tree.
use Rattle.std.specs.Prelude.{true, false, ◌≡◌, ◌≤◌, ◌<◌, ◌^◌, ℕ, List, [], ◌∷◌, ◌++◌, length, map, Some}
use Rattle.std.specs.List.{AllByRecursion}
use Rattle.std.specs.FinMap.{empty, get}
use Rattle.fid_space.specs.declared.fid.Fid.{Fid}
use Rattle.fid_space.specs.Places.{place_of}
use Rattle.fid_space.specs.Targets.{is_member}
use Rattle.out_update.specs.Spelling.{FitsUpdateOf, updates_text}
use Rattle.tree_model.specs.declared.op.Op.{Op}
use Rattle.tree_model.specs.OpText.{IsOp}
use Rattle.tree_model.specs.Keys.{Laid}
use Rattle.tree_model.specs.History.{Item}
use Rattle.tree_model.specs.Striped.{on}
use Rattle.tree_model.specs.Kept.{laid_step, laid_of}
use Rattle.object_store.specs.Meaning.{after_all}
use Rattle.tree_shares.specs.Shares.{share}
use Rattle.tree_sound.specs.Sound.{IsSound}
use Rattle.tree_sound.specs.SoundLaws.{AreOps}
use Rattle.tree_shares.specs.Updates.{updates, placed_updates, updates_at}
use Rattle.tree_shares.specs.Seats.{share_of, share_after, seats_from, Ordered, IsLast}
use Rattle.tree_shares.specs.Wrote.{is_among, wrote}

-- the part of each target makes its share of a tree that of the next; without a part it stays
abbrev pub PartsMakeShares : Type 0
PartsMakeShares =
    (targets most batch : ℕ) (l : Laid) (op : Op) (target : ℕ) → targets ≤ 16 → most < 0x0ffffffe → IsSound targets most l → IsOp targets op
    → after_all (share targets l target) (updates_at target (placed_updates targets batch l op)) ≡ share targets (laid_step targets l op) target

-- the part of each target makes its share of a history that of the history with one item more
abbrev pub SharesOfHistories : Type 0
SharesOfHistories =
    (targets batch : ℕ) (history : List Item) (item : Item) (target : ℕ) → targets ≤ 16 → length history < 0x0ffffffe → AreOps targets history → IsOp targets item.request.op
    → after_all (share targets (laid_of targets history) target) (updates_at target (placed_updates targets batch (laid_of targets history) item.request.op)) ≡ share targets (laid_of targets (history ++ item ∷ [])) target

-- and, at the home, its seat
abbrev pub SeatsGoAlong : Type 0
SeatsGoAlong =
    (targets batch : ℕ) (history : List Item) (item : Item) (target : ℕ) → targets ≤ 16 → length history < 0x0ffffffe → AreOps targets history → IsOp targets item.request.op
    → share_after targets target (share_of targets history target) (updates_at target (placed_updates targets batch (laid_of targets history) item.request.op)) item ≡ share_of targets (history ++ item ∷ []) target

-- where the numbers of each client at a home rise, each seat is its last
abbrev pub SeatsAreLast : Type 0
SeatsAreLast = (targets target client : ℕ) (history : List Item) → Ordered targets history → IsLast targets target client history (get (seats_from targets target empty history) client)

-- the objects that the updates name are those that the changes write
abbrev pub UpdatesNameWhatIsWritten : Type 0
UpdatesNameWhatIsWritten =
    (targets most batch : ℕ) (l : Laid) (op : Op) (x : Fid) → IsSound targets most l → is_among (map (λ u. u.fid) (updates targets batch l op)) x ≡ is_among (wrote targets l op) x

-- each update has a spelling in a part of the record with its batch
abbrev pub UpdatesAreSpelled : Type 0
UpdatesAreSpelled =
    (targets most batch : ℕ) (l : Laid) (op : Op) → 1 ≤ targets → targets ≤ 16 → most < 0x0ffffffe → batch < 2 ^ 64 → IsSound targets most l → IsOp targets op
    → AllByRecursion (FitsUpdateOf (Some batch)) (updates targets batch l op)

-- an operation has at most 97 updates, of at most 21,680 bytes; so with the parts' heads, 16 bytes each, and 48
-- bytes before them no record has more than 21,984 bytes
abbrev pub UpdatesAreFew : Type 0
UpdatesAreFew =
    (targets most batch : ℕ) (l : Laid) (op : Op) → 1 ≤ targets → targets ≤ 16 → most < 0x0ffffffe → batch < 2 ^ 64 → IsSound targets most l → IsOp targets op
    → (length (updates targets batch l op) ≤ 97) × (length (updates_text (updates targets batch l op)) ≤ 21680)

-- each written object has a place, which is one of the targets that the operation is on (the law `WroteOn` of the laws of objects)
abbrev pub WroteIsOn : ℕ → Laid → Op → Type 0
WroteIsOn targets l op = (x : Fid) → is_among (wrote targets l op) x ≡ true → (t : ℕ) × (place_of targets x ≡ Some t) × (is_member (on targets l op) t ≡ true)

-- then a target that the operation isn't on has no part, and keeps its share
abbrev pub OthersStay : Type 0
OthersStay =
    (targets most batch : ℕ) (l : Laid) (op : Op) (target : ℕ) → targets ≤ 16 → most < 0x0ffffffe → IsSound targets most l → IsOp targets op → WroteIsOn targets l op → is_member (on targets l op) target ≡ false
    → (updates_at target (placed_updates targets batch l op) ≡ []) × (share targets l target ≡ share targets (laid_step targets l op) target)
