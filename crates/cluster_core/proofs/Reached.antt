-- What a message says to its target.
use Rattle.std.proofs.Common.{◌≡◌, ◌<◌, ℕ, Bool, true, false, List, Result, Ok, Err, IsTrue, sym, ap, ◌∙◌, subst}
use Rattle.update_record.specs.declared.message.Message.{Message}
use Rattle.update_record.specs.declared.message.MessageKind.{MessageKind}
use Rattle.update_record.specs.declared.message.MessageKind.TheVariants as kind
use Rattle.update_record.specs.Messages.{FitsMessage, FitsBody}
use Rattle.tree_model.specs.declared.op.Op.{Op}
use Rattle.tree_model.specs.OpText.{IsOp, op_text}
use Rattle.update_coordinator.specs.Fitting.{IsRequest}
use Rattle.cluster_mail.specs.declared.content.Content.{Content}
use Rattle.cluster_mail.specs.declared.content.Content.TheVariants as content
use Rattle.cluster_mail.specs.Content.{Says, SaysOp}
use Rattle.target_turns.specs.Taking.{ComesHome}
use Rattle.target_turns.specs.Turn.{is_request, request_of}
use Rattle.cluster_core.specs.Delivery.{MayReach}

-- a message that isn't a request says something
pub says_some : (count : ℕ) (k : MessageKind) (body : List ℕ) → is_request k ≡ false → FitsBody k body → (c : Content) × Says count k body c
says_some count kind.Request body other h = absurd cc
says_some count kind.Hold body other h = (content.Questions h.0, h.1)
says_some count kind.Held body other h = (content.Tells h.0, h.1)
says_some count kind.Execute body other h = (content.Carries h.0, h.1)
says_some count kind.HoldBusy body other h = (content.Nothing, h)
says_some count kind.Sync body other h = (content.Nothing, h)
says_some count kind.Synced body other h = (content.Nothing, h)
says_some count kind.Executed body other h = (content.Nothing, h)
says_some count kind.Release body other h = (content.Nothing, h)
says_some count kind.Released body other h = (content.Nothing, h)
says_some count kind.Stable body other h = (content.Nothing, h)
says_some count kind.Cancel body other h = (content.Nothing, h)

-- nothing that a client asks
asks_not : (count : ℕ) (k : MessageKind) (body : List ℕ) (op : Op) → is_request k ≡ false → Says count k body (content.Asks op) → ⊥
asks_not count kind.Request body op other h = absurd cc
asks_not count kind.Hold body op other h = h
asks_not count kind.Held body op other h = h
asks_not count kind.Execute body op other h = h
asks_not count kind.HoldBusy body op other h = h
asks_not count kind.Sync body op other h = h
asks_not count kind.Synced body op other h = h
asks_not count kind.Executed body op other h = h
asks_not count kind.Release body op other h = h
asks_not count kind.Released body op other h = h
asks_not count kind.Stable body op other h = h
asks_not count kind.Cancel body op other h = h

says_home : (count index : ℕ) (m : Message) (k : MessageKind) (body : List ℕ) (c : Content) → is_request k ≡ false → Says count k body c → ComesHome count index m c
says_home count index m k body (content.Asks op) other h = absurd (asks_not count k body op other h)
says_home count index m k body (content.Questions us) other h = tt
says_home count index m k body (content.Tells f) other h = tt
says_home count index m k body (content.Carries r) other h = tt
says_home count index m k body content.Nothing other h = tt

pub reaches : (count : ℕ) (m : Message) (c : Content) → is_request m.kind ≡ false → FitsMessage m → m.to < count → Says count m.kind m.body c → MayReach count m c
reaches count m c other fits there says =
    record {
      there = there;
      may = record { here = fits.receiver; fits = fits; says = says; home = says_home count m.to m m.kind m.body c other says };
    }

-- ---- a request

request_says : (count : ℕ) (k : MessageKind) (body : List ℕ) (c : Content) → is_request k ≡ true → Says count k body c → SaysOp count body c
request_says count kind.Request body c is h = h
request_says count kind.Hold body c is h = absurd cc
request_says count kind.Held body c is h = absurd cc
request_says count kind.Execute body c is h = absurd cc
request_says count kind.HoldBusy body c is h = absurd cc
request_says count kind.Sync body c is h = absurd cc
request_says count kind.Synced body c is h = absurd cc
request_says count kind.Executed body c is h = absurd cc
request_says count kind.Release body c is h = absurd cc
request_says count kind.Released body c is h = absurd cc
request_says count kind.Stable body c is h = absurd cc
request_says count kind.Cancel body c is h = absurd cc

says_asked : (count : ℕ) (k : MessageKind) (body : List ℕ) (op : Op) → is_request k ≡ true → IsOp count op → body ≡ op_text op → Says count k body (content.Asks op)
says_asked count kind.Request body op is o e = (o, e)
says_asked count kind.Hold body op is o e = absurd cc
says_asked count kind.Held body op is o e = absurd cc
says_asked count kind.Execute body op is o e = absurd cc
says_asked count kind.HoldBusy body op is o e = absurd cc
says_asked count kind.Sync body op is o e = absurd cc
says_asked count kind.Synced body op is o e = absurd cc
says_asked count kind.Executed body op is o e = absurd cc
says_asked count kind.Release body op is o e = absurd cc
says_asked count kind.Released body op is o e = absurd cc
says_asked count kind.Stable body op is o e = absurd cc
says_asked count kind.Cancel body op is o e = absurd cc

pub asks_home : (count : ℕ) (m : Message) (op : Op) → is_request m.kind ≡ true → FitsMessage m → m.to < count → IsOp count op → m.body ≡ op_text op → IsRequest count m.to (request_of m op) → MayReach count m (content.Asks op)
asks_home count m op is fits there o e home =
    record { there = there; may = record { here = fits.receiver; fits = fits; says = says_asked count m.kind m.body op is o e; home = home } }

-- one that isn't for its home reaches no target
pub not_asked : (count : ℕ) (m : Message) (op : Op) → is_request m.kind ≡ true → ((a b : ℕ) (o p : Op) → IsOp a o → IsOp b p → op_text o ≡ op_text p → o ≡ p) → IsOp count op → m.body ≡ op_text op
    → (IsRequest count m.to (request_of m op) → ⊥) → (c : Content) → MayReach count m c → ⊥
not_asked count m op is one o e other c reach = by_content c (request_says count m.kind m.body c is reach.may.says) reach.may.home
  where
    by_content : (c : Content) → SaysOp count m.body c → ComesHome count m.to m c → ⊥
    by_content (content.Asks p) says home = other (subst (λ (x : Op). IsRequest count m.to (request_of m x)) (one count count p op says.0 o (sym says.1 ∙ e)) home)
    by_content (content.Questions us) says home = says
    by_content (content.Tells f) says home = says
    by_content (content.Carries r) says home = says
    by_content content.Nothing says home = says

-- one whose text spells no operation reaches none either
pub not_spelled : (count : ℕ) (m : Message) → is_request m.kind ≡ true → ((op : Op) → IsOp count op → m.body ≡ op_text op → ⊥) → (c : Content) → MayReach count m c → ⊥
not_spelled count m is none c reach = by_content c (request_says count m.kind m.body c is reach.may.says)
  where
    by_content : (c : Content) → SaysOp count m.body c → ⊥
    by_content (content.Asks p) says = none p says.0 says.1
    by_content (content.Questions us) says = says
    by_content (content.Tells f) says = says
    by_content (content.Carries r) says = says
    by_content content.Nothing says = says

-- a fault that isn't another one
pub not_err : {T E : Type 0} (r : Result T E) (e other : E) (b : Bool) → r ≡ Err e → b ≡ false → (e ≡ other → IsTrue b) → r ≡ Err other → ⊥
not_err {E = E} r e other b is f t same = true_false b f (t (ap (err_or e) (sym is ∙ same)))
  where
    err_or : {T : Type 0} → E → Result T E → E
    err_or d (Ok x) = d
    err_or d (Err x) = x

    true_false : (b : Bool) → b ≡ false → IsTrue b → ⊥
    true_false true f t = absurd cc
    true_false false f t = absurd cc
