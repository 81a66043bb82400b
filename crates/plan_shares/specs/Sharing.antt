-- What the shares of a tree answer.
use Rattle.std.specs.Prelude.{◌≤◌, ◌<◌, ◌^◌, ℕ}
use Rattle.std.specs.FinMap.{len}
use Rattle.fid_space.specs.declared.fid.Fid.{Fid}
use Rattle.tree_model.specs.Tree.{names_of}
use Rattle.tree_model.specs.Keys.{Laid}
use Rattle.object_store.specs.Reads.{reads}
use Rattle.tree_sound.specs.Sound.{IsSound}
use Rattle.tree_shares.specs.Shares.{share}
use Rattle.plan_base.specs.declared.question.Question.{Question}
use Rattle.plan_base.specs.Planners.{need_of}
use Rattle.plan_laws.specs.Truth.{IsLaid, TellsTruth}

-- the entries of each directory can be counted in 32 bits
abbrev pub AreCounted : Laid → Type 0
AreCounted l = (d : Fid) → len (names_of l.tree d) < 2 ^ 32

-- what the share of the target that a question goes to answers is true of the tree
abbrev pub SharesTellTruth : Type 0
SharesTellTruth =
    (targets most : ℕ) (l : Laid) (q : Question) → 1 ≤ targets → targets ≤ 16 → most ≤ 0x0ffffffe → IsSound targets most l → AreCounted l → IsLaid l q
    → TellsTruth l q (reads (share targets l (need_of targets q).target) (need_of targets q).ask)
