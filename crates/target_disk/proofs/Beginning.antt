-- A commit that is begun, or given up.
use Rattle.std.proofs.Common.{◌≡◌, ℕ, List, [], ◌++◌, Option, Some, None, length, take, sym, ◌∙◌, ap, subst, arith}
use Rattle.outside.specs.Disk.{Shown}
use Rattle.chain_blocks.specs.Stored.{stored}
use Rattle.target_disk.specs.Tables.{data_at}
use Rattle.target_disk.specs.Store.{HasPut}
use Rattle.target_disk.specs.Draft.{put_len}
use Rattle.target_disk.specs.Consistent.{Fits, IsDraft, IsTaken, begun_from, full_blocks}
use Rattle.target_disk.specs.declared.book.Book.{Book}
use Rattle.target_disk.specs.declared.book.Draft.{Draft}
use Rattle.target_disk.specs.declared.book.Ends.{Ends}

-- no byte was put yet
pub begins : (book : Book) (draft : Draft) → book.draft ≡ None → draft.ends ≡ None → draft.full ≡ 0 → draft.fill ≡ 0 → Fits 4095 book → Fits 4095 (record { blocks = book.blocks; head = book.head; generation = book.generation; table = book.table; block = book.block; draft = Some draft })
begins book draft none ends full fill f = record {
  free = f.free;
  behind = f.behind;
  taken = f.taken;
  holds = f.holds;
  draft = (subst (λ (o : Option Ends). IsTaken o f.taken draft.full) (sym ends) (subst (λ (o : Option Draft). IsDraft 4095 o f.taken) none f.draft, full), omega (arith, fill), omega (arith, full, fill));
  count = f.count;
  short = f.short;
  table = f.table;
  block = f.block;
  positive = f.positive;
}

pub begun_empty : (links block : List ℕ) (draft : Draft) → draft.ends ≡ None → draft.fill ≡ 0 → put_len (begun_from links block (Some draft)) ≡ 0
begun_empty links block draft ends fill = omega (arith, ap (λ (o : Option Ends). length (full_blocks links o)) ends, ap (λ (n : ℕ). length (take n block)) fill)

pub begun_none : (disk : Shown) (links block : List ℕ) (draft : Draft) → draft.ends ≡ None → draft.fill ≡ 0 → HasPut disk (begun_from links block (Some draft)) []
begun_none disk links block draft ends fill =
    ap (λ (o : Option Ends). stored disk.content data_at (full_blocks links o) ++ take draft.fill block) ends ∙ ap (λ (n : ℕ). take n block) fill
