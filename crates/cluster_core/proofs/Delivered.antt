-- What a delivery makes, from what its parts do.
use Rattle.std.proofs.Common.{◌≡◌, ℕ, true, false, Bool, List, [], ◌∷◌, ◌++◌, length, Option, Some, None, Result, Ok, Err, OnOk, inl, inr, refl, sym, ap₂, subst}
use Rattle.update_record.specs.declared.message.Message.{Message}
use Rattle.cluster_mail.specs.declared.content.Content.{Content}
use Rattle.cluster_mail.specs.Mail.{Sent, message_of, mark_delivered}
use Rattle.scenario_text.specs.declared.line.Line.{Line}
use Rattle.scenario_text.specs.declared.line.Line.TheVariants as lines
use Rattle.target_turns.specs.Target.{Target}
use Rattle.target_turns.specs.Turn.{turned}
use Rattle.target_turns.specs.Commanded.{hears_bounce}
use Rattle.cluster_core.specs.Cluster.{Cluster, Turns, target_at, turn_lines}
use Rattle.cluster_core.specs.Delivery.{MayReach, Reaches, Delivers, DeliversBy, bounces, marked}

module _ (old mid new : Cluster) (k : ℕ) (m : Message) (same : mid.targets ≡ old.targets) (sent : mid.sent ≡ mark_delivered old.sent k) (is : m ≡ message_of old.sent k) (before after : List Line) where
  at : mid ≡ marked old k
  at = ap₂ (λ (ts : List Target) (ss : List Sent). record { targets = ts; sent = ss }) same sent

  abbrev Handed : Message → Cluster → Type 0
  Handed x y =
      (bounces y.targets x ≡ false) × (content : Content) × MayReach (length y.targets) x content × Turns y x.to (turned k (target_at y.targets x.to) x content) new
      × (after ≡ before ++ turn_lines new x.to (turned k (target_at y.targets x.to) x content))

  pub handed : bounces mid.targets m ≡ false → (content : Content) → MayReach (length mid.targets) m content → Turns mid m.to (turned k (target_at mid.targets m.to) m content) new
      → after ≡ before ++ turn_lines new m.to (turned k (target_at mid.targets m.to) m content) → (ls : List Line) × Delivers old k new ls × (after ≡ before ++ ls)
  handed stays content reach turn said =
      let here : Handed m mid = (stays, content, reach, turn, said) in
      let h : Handed (message_of old.sent k) (marked old k) = subst (λ (y : Cluster). Handed (message_of old.sent k) y) at (subst (λ (x : Message). Handed x mid) is here) in
      let x = message_of old.sent k in
      let ls = turn_lines new x.to (turned k (target_at old.targets x.to) x h.1) in
      (ls, subst (λ (b : Bool). DeliversBy b old k x new ls) (sym h.0) (inl (record { content = h.1; reaches = h.2; turn = h.3; lines_are = refl })), h.4)

  abbrev Back : Message → Cluster → Type 0
  Back x y = (bounces y.targets x ≡ true) × Turns y x.from (hears_bounce (target_at y.targets x.from) x) new × (after ≡ before ++ turn_lines new x.from (hears_bounce (target_at y.targets x.from) x))

  pub back : bounces mid.targets m ≡ true → Turns mid m.from (hears_bounce (target_at mid.targets m.from) m) new → after ≡ before ++ turn_lines new m.from (hears_bounce (target_at mid.targets m.from) m)
      → (ls : List Line) × Delivers old k new ls × (after ≡ before ++ ls)
  back comes turn said =
      let here : Back m mid = (comes, turn, said) in
      let h : Back (message_of old.sent k) (marked old k) = subst (λ (y : Cluster). Back (message_of old.sent k) y) at (subst (λ (x : Message). Back x mid) is here) in
      let x = message_of old.sent k in
      let ls = turn_lines new x.from (hears_bounce (target_at old.targets x.from) x) in
      (ls, subst (λ (b : Bool). DeliversBy b old k x new ls) (sym h.0) (record { turn = h.1; lines_are = refl }), h.2)

  abbrev Lost : Message → Cluster → Type 0
  Lost x y = (bounces y.targets x ≡ false) × ((content : Content) → MayReach (length y.targets) x content → ⊥) × (new ≡ y)

  pub lost : bounces mid.targets m ≡ false → ((content : Content) → MayReach (length mid.targets) m content → ⊥) → new ≡ mid → after ≡ before ++ lines.Ignored k ∷ [] → (ls : List Line) × Delivers old k new ls × (after ≡ before ++ ls)
  lost stays none stands said =
      let here : Lost m mid = (stays, none, stands) in
      let h : Lost (message_of old.sent k) (marked old k) = subst (λ (y : Cluster). Lost (message_of old.sent k) y) at (subst (λ (x : Message). Lost x mid) is here) in
      let x = message_of old.sent k in
      let ls = lines.Ignored k ∷ [] in
      (ls, subst (λ (b : Bool). DeliversBy b old k x new ls) (sym h.0) (inr (record { no = h.1; after = h.2; lines_are = refl })), said)

-- what was found to say to a target, and what wasn't
pub found : (count : ℕ) (m : Message) (o : Option Content) (c : Content) → o ≡ Some c → Reaches count m o → MayReach count m c
found count m o c e h = subst (λ (x : Option Content). Reaches count m x) e h

pub none_found : (count : ℕ) (m : Message) (o : Option Content) → o ≡ None → Reaches count m o → (content : Content) → MayReach count m content → ⊥
none_found count m o e h = subst (λ (x : Option Content). Reaches count m x) e h

pub on_ok_both : {T E A B C : Type 0} (r : Result T E) → (A → B → C) → OnOk r A → OnOk r B → OnOk r C
on_ok_both (Ok x) f a b = f a b
on_ok_both (Err e) f a b = tt

pub on_ok_all : {T E A B C F G : Type 0} (r : Result T E) → (A → B → C → F → G) → OnOk r A → OnOk r B → OnOk r C → OnOk r F → OnOk r G
on_ok_all (Ok x) f a b c d = f a b c d
on_ok_all (Err e) f a b c d = tt

pub on_ok_three : {T E A B C F : Type 0} (r : Result T E) → (A → B → C → F) → OnOk r A → OnOk r B → OnOk r C → OnOk r F
on_ok_three (Ok x) f a b c = f a b c
on_ok_three (Err e) f a b c = tt
