-- A body says one thing.
use Rattle.std.proofs.Common.{◌≡◌, ℕ, List, [], refl, sym, ap, ◌∙◌}
use Rattle.tree_model.specs.declared.op.Op.{Op}
use Rattle.tree_model.specs.OpText.{IsOp, op_text}
use Rattle.out_update.specs.declared.update.Update.{Update}
use Rattle.out_update.specs.Spelling.{spells}
use Rattle.update_record.specs.declared.message.Facts.{Facts}
use Rattle.update_record.specs.declared.message.MessageKind.{MessageKind}
use Rattle.update_record.specs.declared.message.MessageKind.TheVariants as kind
use Rattle.update_record.specs.declared.operation.Record.{Record}
use Rattle.update_record.specs.Messages.{spells_facts}
use Rattle.update_record.specs.Spelling.{spells_record}
use Rattle.cluster_mail.specs.declared.content.Content.{Content}
use Rattle.cluster_mail.specs.declared.content.Content.TheVariants as content
use Rattle.cluster_mail.specs.Content.{SaysOp, SaysQuestion, SaysFacts, SaysRecord, SaysNothing, Says}

abbrev pub OneOp : Type 0
OneOp = (m n : ℕ) (o p : Op) → IsOp m o → IsOp n p → op_text o ≡ op_text p → o ≡ p

abbrev pub OneRequest : Type 0
OneRequest = (us vs : List Update) (a : List ℕ) → spells us a → spells vs a → us ≡ vs

abbrev pub OneFacts : Type 0
OneFacts = (f g : Facts) (a : List ℕ) → spells_facts f a → spells_facts g a → f ≡ g

abbrev pub OneRecord : Type 0
OneRecord = (r s : Record) (a : List ℕ) → spells_record r a → spells_record s a → r ≡ s

one_op : OneOp → (targets : ℕ) (body : List ℕ) (c d : Content) → SaysOp targets body c → SaysOp targets body d → c ≡ d
one_op law targets body (content.Asks o) (content.Asks p) hc hd = ap (λ (x : Op). content.Asks x) (law targets targets o p hc.0 hd.0 (sym hc.1 ∙ hd.1))
one_op law targets body (content.Asks o) (content.Questions vs) hc hd = absurd hd
one_op law targets body (content.Asks o) (content.Tells g) hc hd = absurd hd
one_op law targets body (content.Asks o) (content.Carries s) hc hd = absurd hd
one_op law targets body (content.Asks o) content.Nothing hc hd = absurd hd
one_op law targets body (content.Questions us) d hc hd = absurd hc
one_op law targets body (content.Tells f) d hc hd = absurd hc
one_op law targets body (content.Carries r) d hc hd = absurd hc
one_op law targets body content.Nothing d hc hd = absurd hc

one_question : OneRequest → (body : List ℕ) (c d : Content) → SaysQuestion body c → SaysQuestion body d → c ≡ d
one_question law body (content.Asks o) d hc hd = absurd hc
one_question law body (content.Questions us) (content.Asks p) hc hd = absurd hd
one_question law body (content.Questions us) (content.Questions vs) hc hd = ap (λ (x : List Update). content.Questions x) (law us vs body (hc.0.0, hc.1) (hd.0.0, hd.1))
one_question law body (content.Questions us) (content.Tells g) hc hd = absurd hd
one_question law body (content.Questions us) (content.Carries s) hc hd = absurd hd
one_question law body (content.Questions us) content.Nothing hc hd = absurd hd
one_question law body (content.Tells f) d hc hd = absurd hc
one_question law body (content.Carries r) d hc hd = absurd hc
one_question law body content.Nothing d hc hd = absurd hc

one_facts : OneFacts → (body : List ℕ) (c d : Content) → SaysFacts body c → SaysFacts body d → c ≡ d
one_facts law body (content.Asks o) d hc hd = absurd hc
one_facts law body (content.Questions us) d hc hd = absurd hc
one_facts law body (content.Tells f) (content.Asks p) hc hd = absurd hd
one_facts law body (content.Tells f) (content.Questions vs) hc hd = absurd hd
one_facts law body (content.Tells f) (content.Tells g) hc hd = ap (λ (x : Facts). content.Tells x) (law f g body hc hd)
one_facts law body (content.Tells f) (content.Carries s) hc hd = absurd hd
one_facts law body (content.Tells f) content.Nothing hc hd = absurd hd
one_facts law body (content.Carries r) d hc hd = absurd hc
one_facts law body content.Nothing d hc hd = absurd hc

one_record : OneRecord → (body : List ℕ) (c d : Content) → SaysRecord body c → SaysRecord body d → c ≡ d
one_record law body (content.Asks o) d hc hd = absurd hc
one_record law body (content.Questions us) d hc hd = absurd hc
one_record law body (content.Tells f) d hc hd = absurd hc
one_record law body (content.Carries r) (content.Asks p) hc hd = absurd hd
one_record law body (content.Carries r) (content.Questions vs) hc hd = absurd hd
one_record law body (content.Carries r) (content.Tells g) hc hd = absurd hd
one_record law body (content.Carries r) (content.Carries s) hc hd = ap (λ (x : Record). content.Carries x) (law r s body hc hd)
one_record law body (content.Carries r) content.Nothing hc hd = absurd hd
one_record law body content.Nothing d hc hd = absurd hc

one_nothing : (body : List ℕ) (c d : Content) → SaysNothing body c → SaysNothing body d → c ≡ d
one_nothing body (content.Asks o) d hc hd = absurd hc
one_nothing body (content.Questions us) d hc hd = absurd hc
one_nothing body (content.Tells f) d hc hd = absurd hc
one_nothing body (content.Carries r) d hc hd = absurd hc
one_nothing body content.Nothing (content.Asks p) hc hd = absurd hd
one_nothing body content.Nothing (content.Questions vs) hc hd = absurd hd
one_nothing body content.Nothing (content.Tells g) hc hd = absurd hd
one_nothing body content.Nothing (content.Carries s) hc hd = absurd hd
one_nothing body content.Nothing content.Nothing hc hd = refl

pub one_thing : OneOp → OneRequest → OneFacts → OneRecord → (targets : ℕ) (k : MessageKind) (body : List ℕ) (c d : Content) → Says targets k body c → Says targets k body d → c ≡ d
one_thing o q f r targets kind.Request body c d hc hd = one_op o targets body c d hc hd
one_thing o q f r targets kind.Hold body c d hc hd = one_question q body c d hc hd
one_thing o q f r targets kind.Held body c d hc hd = one_facts f body c d hc hd
one_thing o q f r targets kind.Execute body c d hc hd = one_record r body c d hc hd
one_thing o q f r targets kind.HoldBusy body c d hc hd = one_nothing body c d hc hd
one_thing o q f r targets kind.Sync body c d hc hd = one_nothing body c d hc hd
one_thing o q f r targets kind.Synced body c d hc hd = one_nothing body c d hc hd
one_thing o q f r targets kind.Executed body c d hc hd = one_nothing body c d hc hd
one_thing o q f r targets kind.Release body c d hc hd = one_nothing body c d hc hd
one_thing o q f r targets kind.Released body c d hc hd = one_nothing body c d hc hd
one_thing o q f r targets kind.Stable body c d hc hd = one_nothing body c d hc hd
one_thing o q f r targets kind.Cancel body c d hc hd = one_nothing body c d hc hd
