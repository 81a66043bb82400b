-- What operations are over histories, and what the answers of targets tell of them.
use Rattle.op_laws.specs.Near.{key_fid}
use Rattle.tree_model.specs.Laws.{Among}
use Rattle.out_update.specs.declared.update.Kind.TheVariants as kind
use Rattle.fid_space.specs.Places.{is_stripe, place_of}
use Rattle.fid_space.specs.declared.fid.Fid.{Fid}
use Rattle.object_store.specs.Reads.{reads}
use Rattle.op_laws.specs.Objects.{is_among, owner, saw}
use Rattle.out_update.specs.declared.result.UpdateResult.{UpdateResult}
use Rattle.out_update.specs.declared.update.Kind.{Kind}
use Rattle.out_update.specs.declared.update.Update.{Update}
use Rattle.std.specs.List.{AllByRecursion}
use Rattle.std.specs.Option.{unwrap_or}
use Rattle.std.specs.Prelude.{Bool, List, [], false, length, not, true, ℕ, ◌&&◌, ◌<◌, ◌∷◌, ◌≡◌, ◌⊎◌}
use Rattle.tree_model.specs.History.{Item}
use Rattle.tree_model.specs.Kept.{laid_of}
use Rattle.tree_model.specs.Keys.{Key, Laid}
use Rattle.tree_model.specs.Looks.{looks}
use Rattle.tree_model.specs.OpText.{IsOp}
use Rattle.tree_model.specs.Step.{step}
use Rattle.tree_model.specs.declared.op.Op.{Op}
use Rattle.tree_model.specs.declared.reply.Reply.{Reply}
use Rattle.tree_shares.specs.Parts.{parts}
use Rattle.tree_shares.specs.Shares.{share}
use Rattle.update_protocol.specs.Lists.{IsIn}

-- the updates of each target that takes part, as in an update record
abbrev pub Parts : Type 0
Parts = List (ℕ × List Update)

-- a question that was asked, and what was answered
abbrev pub Fact : Type 0
Fact = Update × UpdateResult

-- what is decided for an operation: the reply, the parts, and the objects whose last writer was told
pub record Decision : Type 0 where
  pub reply : Reply
  pub parts : Parts
  pub saw : List Fid

-- no writer is told where a node's attributes are asked of a FID that is a stripe's
abbrev pub asks_attributes : Kind → Bool
asks_attributes kind.AttrGet = true
asks_attributes _ = false

abbrev pub is_told : ℕ → Update → Bool
is_told targets u = not (asks_attributes u.kind && is_stripe targets u.fid)

-- the objects whose last writer is told with the answer
abbrev pub Asks : ℕ → List Update → Fid → Type 0
Asks targets [] f = ⊥
Asks targets (u ∷ us) f = ((u.fid ≡ f) × (is_told targets u ≡ true)) ⊎ Asks targets us f

module _ (targets : ℕ) where
  abbrev pub laid : List Item → Laid
  laid h = laid_of targets h

  -- the target of an object
  abbrev pub place : Fid → ℕ
  place f = unwrap_or (place_of targets f) 0

  -- Each operation is one that a client can send, and there are too few for a layout's last generation.
  pub record Fits (h : List Item) : Type 0 where
    pub each : AllByRecursion (λ i. IsOp targets i.request.op) h
    pub few : length h < 0x0ffffffe

  -- the facts are true of these shares
  abbrev pub AreTrue : Laid → List Fact → Type 0
  AreTrue l facts = (u : Update) (r : UpdateResult) → IsIn (u, r) facts → r ≡ reads (share targets l (place u.fid)) u

  -- the operation on this tree has that reply, those parts and those objects whose writer was told; each of these
  -- was asked for by a fact whose writer is told, and each such fact is of something that the operation looks at
  pub record Decides (l : Laid) (facts : List Fact) (batch : ℕ) (op : Op) (d : Decision) : Type 0 where
    pub reply : d.reply ≡ (step targets l.tree op).1
    pub parts : d.parts ≡ parts targets batch l op
    pub saw : d.saw ≡ saw targets l op
    pub asked_near : (u : Update) (r : UpdateResult) → IsIn (u, r) facts → is_told targets u ≡ true → (k : Key) × Among (looks targets l.tree op) k × (key_fid k ≡ owner targets u.fid)
    pub asked : (f : Fid) → is_among d.saw f ≡ true → (u : Update) × (r : UpdateResult) × IsIn (u, r) facts × (u.fid ≡ f) × (is_told targets u ≡ true)

  -- what facts decide: over each history of whose shares they are true, the operation is so
  abbrev pub Settles : List Fact → ℕ → Op → Decision → Type 0
  Settles facts batch op d = (h : List Item) → Fits h → AreTrue (laid h) facts → Decides (laid h) facts batch op d

  -- it is so over each history of whose shares the facts are true
  abbrev pub Imply : List Fact → (Laid → Type 0) → Type 0
  Imply facts P = (h : List Item) → Fits h → AreTrue (laid h) facts → P (laid h)
