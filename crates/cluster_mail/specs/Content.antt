-- What the bodies of messages say.
use Rattle.std.specs.Prelude.{◌≡◌, ℕ, List, []}
use Rattle.tree_model.specs.declared.op.Op.{Op}
use Rattle.tree_model.specs.OpText.{IsOp, op_text}
use Rattle.update_record.specs.declared.message.MessageKind.{MessageKind}
use Rattle.update_record.specs.declared.message.MessageKind.TheVariants as kind
use Rattle.update_record.specs.Messages.{spells_question, spells_facts}
use Rattle.update_record.specs.Spelling.{spells_record}
use Rattle.cluster_mail.specs.declared.content.Content.{Content}
use Rattle.cluster_mail.specs.declared.content.Content.TheVariants as content

-- the text of an operation whose FIDs have a place among so many targets
abbrev pub spells_op : ℕ → Op → List ℕ → Type 0
spells_op targets op bytes = IsOp targets op × (bytes ≡ op_text op)

abbrev pub SaysOp : ℕ → List ℕ → Content → Type 0
SaysOp targets body (content.Asks op) = spells_op targets op body
SaysOp targets body _ = ⊥

abbrev pub SaysQuestion : List ℕ → Content → Type 0
SaysQuestion body (content.Questions us) = spells_question us body
SaysQuestion body _ = ⊥

abbrev pub SaysFacts : List ℕ → Content → Type 0
SaysFacts body (content.Tells f) = spells_facts f body
SaysFacts body _ = ⊥

abbrev pub SaysRecord : List ℕ → Content → Type 0
SaysRecord body (content.Carries r) = spells_record r body
SaysRecord body _ = ⊥

abbrev pub SaysNothing : List ℕ → Content → Type 0
SaysNothing body content.Nothing = body ≡ []
SaysNothing body _ = ⊥

-- the body of a message of this kind says this, among so many targets
abbrev pub Says : ℕ → MessageKind → List ℕ → Content → Type 0
Says targets kind.Request body c = SaysOp targets body c
Says targets kind.Hold body c = SaysQuestion body c
Says targets kind.Held body c = SaysFacts body c
Says targets kind.Execute body c = SaysRecord body c
Says targets _ body c = SaysNothing body c
