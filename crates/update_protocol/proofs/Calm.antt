-- Where no message is undelivered and each current attempt awaits an answer, nothing is held.
use Rattle.std.proofs.Common.{Some, [], subst, ℕ, ⊎_elim, ◌≡◌, ◌≢◌, ◌⊎◌}
use Rattle.update_protocol.specs.Lists.{IsIn}
use Rattle.update_protocol.specs.Progress.{Ask, Asking, Execute, Moves, Note, Release, Through, Waits, answer}
use Rattle.update_protocol.specs.World.{Attempt}

pub calm : (w : Asking) → Moves w → w.fresh ≡ [] → ((m : ℕ) (a : Attempt) → w.trying m ≡ Some a → (p : Note) × IsIn p (w.awaits m)) → (t : ℕ) (a : Attempt) → w.holder t ≢ Some a
calm w v empty awaiting t a h =
    let none : (p : Note) → Waits w.fresh p → ⊥ = λ p q. ⊎_elim (λ (x : IsIn p w.fresh). subst (λ l. IsIn p l) empty x) (λ (x : IsIn (answer p) w.fresh). subst (λ l. IsIn (answer p) l) empty x) q in
    let current : (m : ℕ) → w.trying m ≡ Some a → ⊥ = λ m e. let p = awaiting m a e in none p.0 (v.asked m p.0 p.1).3 in
    ⊎_elim (λ (own : (a.who.master ≡ t) × (w.trying t ≡ Some a)). current t own.1)
    (λ (sent : (k : ℕ) × IsIn (Ask a t k) w.ever). ⊎_elim (λ (e : w.trying (a.who.master) ≡ Some a). current _ e)
    (λ (r : IsIn (a, t) w.execs ⊎ (IsIn (a, t) w.rels ⊎ Through w a t)). ⊎_elim (λ (x : IsIn (a, t) w.execs). none (Execute a t) (v.executing a t x))
    (λ (q : IsIn (a, t) w.rels ⊎ Through w a t). ⊎_elim (λ (x : IsIn (a, t) w.rels). none (Release a t) (v.releasing a t x)) (λ (x : Through w a t). x.1 h) q) r)
    (v.tells (Ask a t sent.0) sent.1).1)
    (v.held t a h)
