-- A target that doesn't serve sends nothing.
use Rattle.std.proofs.Common.{◌≡◌, ℕ, Bool, true, false, Option, Some, List, [], ◌∷◌, ◌++◌, map, Result, Ok, Err, OnOk, refl, sym, ap, subst, ◌∙◌}
use Rattle.outside.specs.Disk.{Shown}
use Rattle.update_record.specs.declared.message.Message.{Message}
use Rattle.cluster_mail.specs.Mail.{Sent, fresh}
use Rattle.cluster_mail.specs.declared.content.Content.{Content}
use Rattle.target_turns.specs.declared.target.Halted.{Halted}
use Rattle.target_turns.specs.declared.target.State.{State}
use Rattle.target_turns.specs.declared.target.State.TheVariants as state
use Rattle.target_turns.specs.Target.{Target, Fate, serves, target_down}
use Rattle.target_turns.specs.Turn.{turned, turned_away, is_request}
use Rattle.target_turns.specs.Placing.{target_of}

away_silent : (b : Bool) (k : ℕ) (t : Target) (m : Message) → is_request m.kind ≡ b → (turned_away k t m).sent ≡ []
away_silent true k t m is = rw is refl
away_silent false k t m is = rw is refl

pub down_silent : {D : Type 0} (shown : D → Shown) (targets index : ℕ) (slot : Option (State D)) (s : State D) (h : Halted D) (now : Target) → slot ≡ Some s → s ≡ state.Down h → target_of shown targets index slot ≡ now
    → (k : ℕ) (m : Message) (x : Content) (f : Fate) → (turned k now m x f).sent ≡ []
down_silent shown targets index slot s h now some down view k m x f =
    subst (λ (t : Target). (turned k t m x f).sent ≡ []) (ap (target_of shown targets index) (sym (some ∙ ap (λ q. Some q) down)) ∙ view) (away_silent (is_request m.kind) k (target_down targets index h.formatted (shown h.disk)) m refl)

append_none : (xs : List Sent) → xs ++ [] ≡ xs
append_none [] = refl
append_none (x ∷ xs) = ap (λ (ys : List Sent). x ∷ ys) (append_none xs)

pub none_added : {T E : Type 0} (r : Result T E) (mail : List Sent) (ms : List Message) → ms ≡ [] → OnOk r (mail ≡ mail ++ map fresh ms)
none_added (Ok x) mail ms none = sym (ap (λ (ns : List Message). mail ++ map fresh ns) none ∙ append_none mail)
none_added (Err e) mail ms none = tt
