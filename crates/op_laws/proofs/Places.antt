-- From what is so of an operation's changes: where keys stand afterwards, and what its objects were.
use Rattle.std.proofs.Common.{◌≡◌, ◌≢◌, ◌<◌, ◌≤◌, ◌||◌, ◌&&◌, ◌⊎◌, inl, inr, ⊎_elim, is_some, ℕ, zero, suc, Bool, true, false, if◌then◌else◌, Option, None, List, [], ◌∷◌, refl, sym, ap, ◌∙◌, subst, arith, true≢false}
use Rattle.std.specs.List.{flat_map}
use Rattle.std.specs.FinMap.{get}
use Rattle.fid_space.specs.declared.fid.Fid.{Fid}
use Rattle.fid_space.specs.Places.{is_client, is_stripe}
use Rattle.tree_model.specs.declared.node.Node.{Node}
use Rattle.tree_model.specs.Changes.{Change, PutNode, DropNode, PutName, DropName, NewLayout, NextLayout, MoveNames}
use Rattle.tree_model.specs.Keys.{Key, NodeKey, NameKey, AllKey, Layout, Laid, meets, Value, NodeValue, NameValue, AllValue, plain_layout, layout_at, layout_with, laid_after_all, keys_of, keys_of_all}
use Rattle.tree_model.specs.Striped.{stripe_target}
use Rattle.tree_model.specs.Step.{is_dir}
use Rattle.tree_model.specs.Laws.{Among}
use Rattle.tree_model.specs.Tree.{same_fid, same_name}
use Rattle.tree_model.proofs.Writing.{unmet_after}
use Rattle.tree_model.proofs.Fids.{name_ties, name_same}
use Rattle.op_laws.specs.Objects.{is_among, stripes_below, stripes_of, parts_of, part_named, owner, there, stands, written_by}
use Rattle.tree_sound.specs.Sound.{IsNodeFid}
use Rattle.op_laws.proofs.Ground.{Ground}
use Rattle.op_laws.proofs.Lists.{of_in, not_in, in_left, in_right, in_flat, in_keys, each_in, all_of}
use Rattle.op_laws.proofs.Names.{no_stripe, own_owner, one_generation}
use Rattle.op_laws.proofs.Stripes.{stripes_are_parts, name_has_part, some_part, part_is, of_stripe}
use Rattle.op_laws.proofs.Facts.{Licensed, Lays, Same, Gone, New, Next, Good, next_of}
use Rattle.tree_sound.proofs.Basics.{In, which, same_is, in_either}

or_none : (a b c : Bool) → a ≡ false → c ≡ false → (a || (b && c)) ≡ false
or_none true b c e f = absurd (true≢false e)
or_none false true c e f = f
or_none false false c e f = refl

or_last : (a b c : Bool) → b ≡ true → c ≡ true → (a || (b && c)) ≡ true
or_last true b c e f = refl
or_last false true c e f = f
or_last false false c e f = absurd (true≢false (sym e))

pub only : {A : Type 0} {x y : A} → In (x ∷ []) y → x ≡ y
only h = ⊎_elim (λ e. e) (λ none. absurd none) h

and_both : (a b : Bool) → (a && b) ≡ true → (a ≡ true) × (b ≡ true)
and_both true b h = (refl, h)
and_both false b h = absurd (true≢false (sym h))

pub count_with : (c i g : ℕ) → (layout_with c i g).count ≡ c
count_with zero i g = refl
count_with (suc c) i g = refl

generation_with : (c i g : ℕ) → (layout_with c i g).generation ≡ g
generation_with zero i g = refl
generation_with (suc c) i g = refl

node_of : Value → Option Node
node_of (NodeValue n l) = n
node_of (NameValue f) = None
node_of (AllValue m) = None

key_change : (cs : List Change) (w : Key) → In (keys_of_all cs) w → (c : Change) × In cs c × In (keys_of c) w
key_change [] w h = absurd h
key_change (c ∷ cs) w h = ⊎_elim (λ m. (c, inl refl, m)) (λ m. let more = key_change cs w m in (more.0, inr more.1, more.2)) (in_either (keys_of c) (keys_of_all cs) w h)

module _ (targets : ℕ) (some : 1 ≤ targets) (few : targets ≤ 16) where
  -- ---- of one tree

  node_stands : (l : Laid) (f : Fid) → IsNodeFid targets f → In (stands targets l (NodeKey f)) f
  node_stands l f h = subst (λ b. In (if b then [] else f ∷ []) f) (sym (no_stripe targets f h)) (inl refl)

  stripe_part : (d : Fid) (lay : Layout) (x : Fid) → In (stripes_of targets d lay) x → In (parts_of targets d lay) x
  stripe_part d lay x h = stripes_are_parts targets d lay.count lay.start lay.generation x h

  node_own : (f : Fid) → IsNodeFid targets f → owner targets f ≡ f
  node_own f h = own_owner targets f (no_stripe targets f h)

  module _ (l : Laid) (sound : Ground targets l) where
    absent_plain : (f : Fid) → get l.tree.nodes f ≡ None → layout_at l f ≡ plain_layout
    absent_plain f h = sound.unlaid f (ap is_dir h)

    abbrev pub IsStriped : Fid → Type 0
    IsStriped d = (is_client targets d ≡ true) × ((layout_at l d).count ≤ targets)

    -- a directory with a stripe is a client's
    pub striped : (d x : Fid) → In (stripes_of targets d (layout_at l d)) x → IsStriped d
    striped d x h = sound.striped d (λ (z : (layout_at l d).count ≡ 0). absurd (subst (λ n. In (stripes_below targets d (layout_at l d) n) x) z h))

    -- a stripe of another generation than the directory's isn't there
    fresh : (d : Fid) (lay : Layout) (x : Fid) → is_client targets d ≡ true → lay.count ≤ targets → In (stripes_of targets d lay) x
        → ((layout_at l d).count ≡ 0) ⊎ ((layout_at l d).generation ≢ lay.generation) → there targets l x ≡ false
    fresh d lay x client low h old =
        let o = of_stripe targets d lay x some few client h in
        or_none (is_some (get l.tree.nodes x)) (is_stripe targets x) (is_among (stripes_of targets (owner targets x) (layout_at l (owner targets x))) x)
        (⊎_elim (λ (e : is_some (get l.tree.nodes x) ≡ true). absurd (true≢false (sym o.stripe ∙ no_stripe targets x (sound.called x e)))) (λ e. e) (which (is_some (get l.tree.nodes x))))
        (subst (λ e. is_among (stripes_of targets e (layout_at l e)) x ≡ false) (sym o.own)
        (not_in (stripes_of targets d (layout_at l d)) x (λ m.
        let lows = striped d x m in
        let p = of_stripe targets d (layout_at l d) x some few client m in
        let small : o.index < 16 = let a = o.within in omega (arith, a, low, few) in
        let small_too : p.index < 16 = let a = p.within in let b = lows.1 in omega (arith, a, b, few) in
        ⊎_elim (λ (none : (layout_at l d).count ≡ 0). absurd (let a = p.within in omega (arith, a, none)))
        (λ (other : (layout_at l d).generation ≢ lay.generation).
        absurd (other (one_generation d (stripe_target targets (layout_at l d) p.index) (stripe_target targets lay o.index) p.index o.index (layout_at l d).generation lay.generation small_too small (p.is ∙ sym o.is)))) old)))

  -- a stripe of a directory is there
  pub stripe_there : (m : Laid) (d x : Fid) → is_client targets d ≡ true → In (stripes_of targets d (layout_at m d)) x → there targets m x ≡ true
  stripe_there m d x client h =
      let o = of_stripe targets d (layout_at m d) x some few client h in
      or_last (is_some (get m.tree.nodes x)) (is_stripe targets x) (is_among (stripes_of targets (owner targets x) (layout_at m (owner targets x))) x)
      o.stripe (subst (λ e. is_among (stripes_of targets e (layout_at m e)) x ≡ true) (sym o.own) (of_in (stripes_of targets d (layout_at m d)) x h))

  -- ---- before and after

  module _ (l : Laid) (sound : Ground targets l) (looked : List Key) (cs : List Change) (good : Good targets l looked cs) where
    abbrev after : Laid
    after = laid_after_all l cs

    abbrev Told : Fid → Type 0
    Told x = In (flat_map (stands targets l) looked) x

    abbrev Wrote : Fid → Type 0
    Wrote x = In (flat_map (written_by targets l) cs) x

    told_key : (k : Key) (x : Fid) → Among looked k → In (stands targets l k) x → Told x
    told_key k x a h = in_flat (stands targets l) looked k x (in_keys looked k a) h

    told_node : (f : Fid) → Among looked (NodeKey f) → IsNodeFid targets f → Told f
    told_node f a h = told_key (NodeKey f) f a (node_stands l f h)

    wrote_by : (c : Change) (x : Fid) → In cs c → In (written_by targets l c) x → Wrote x
    wrote_by c x m h = in_flat (written_by targets l) cs c x m h

    licence : (c : Change) → In cs c → Licensed targets l looked cs c
    licence c m = each_in (Licensed targets l looked cs) cs c good.each m

    record Relaid (d : Fid) : Type 0 where
      told : (x : Fid) → In (parts_of targets d (layout_at l d)) x → Told x
      old : (x : Fid) → In (stripes_of targets d (layout_at l d)) x → Wrote x
      new : (x : Fid) → In (parts_of targets d (layout_at after d)) x → Wrote x
      own : Wrote d

    -- the parts of a layout are its directory or its stripes
    by_part : (d : Fid) (lay : Layout) (x : Fid) → In (parts_of targets d lay) x → Wrote d → ((y : Fid) → In (stripes_of targets d lay) y → Wrote y) → Wrote x
    by_part d lay x h own more = ⊎_elim (λ e. subst Wrote e own) (λ m. more x m) (part_is targets d lay.count lay.start lay.generation x h)

    at_new : (d : Fid) (lay : Layout) → layout_at after d ≡ lay → Wrote d → ((y : Fid) → In (stripes_of targets d lay) y → Wrote y) → (x : Fid) → In (parts_of targets d (layout_at after d)) x → Wrote x
    at_new d lay e own more x h = by_part d lay x (subst (λ k. In (parts_of targets d k) x) e h) own more

    relaid : (d : Fid) → (layout_at after d ≡ layout_at l d) ⊎ Relaid d
    relaid d = by_lays (good.lays d)
      where
        by_lays : Lays targets l looked cs d → (layout_at after d ≡ layout_at l d) ⊎ Relaid d
        by_lays (Same e) = inl e
        by_lays (Gone m a e) =
            let own : Wrote d = wrote_by (DropNode d) d m (inl refl) in
            inr (record {
              told = λ x h. told_key (AllKey d) x a h;
              old = λ x h. wrote_by (DropNode d) x m (inr h);
              new = at_new d plain_layout e own (λ y none. absurd none);
              own = own;
            })
        by_lays (New c i m e) =
            let lic = licence (NewLayout d c i) m in
            let plain = absent_plain l sound d lic.2 in
            let own : Wrote d = wrote_by (NewLayout d c i) d m (inl refl) in
            inr (record {
              told = λ x h. ⊎_elim (λ (same : d ≡ x). subst Told same (told_node d lic.0 (inr lic.1))) (λ none. absurd none) (subst (λ k. In (parts_of targets d k) x) plain h);
              old = λ x h. absurd (subst (λ k. In (stripes_of targets d k) x) plain h);
              new = at_new d (layout_with c i 0) e own (λ y h. wrote_by (NewLayout d c i) y m (inr h));
              own = own;
            })
        by_lays (Next c i m e) =
            let lic = licence (NextLayout d c i) m in
            let next = next_of targets l looked d c i in
            let own : Wrote d = wrote_by (NextLayout d c i) d m (inl refl) in
            inr (record {
              told = λ x h. told_key (AllKey d) x lic.1 h;
              old = λ x h. wrote_by (NextLayout d c i) x m (inr (in_left (stripes_of targets d (layout_at l d)) (stripes_of targets d next) x h));
              new = at_new d next e own (λ y h. wrote_by (NextLayout d c i) y m (inr (in_right (stripes_of targets d (layout_at l d)) (stripes_of targets d next) y h)));
              own = own;
            })

    named_part : (d : Fid) (lay : Layout) (n : List ℕ) → In (parts_of targets d lay) (part_named targets d lay n)
    named_part d lay n = name_has_part targets d lay.count lay.start lay.generation n

    one_part : (d : Fid) (lay : Layout) → (x : Fid) × In (parts_of targets d lay) x
    one_part d lay = some_part targets d lay.count lay.start lay.generation

    -- ---- a key stays, or moves from what was told to what is written

    abbrev Somewhere : Key → Type 0
    Somewhere k = (x : Fid) × In (stands targets after k) x × Wrote x

    pub moves : (k : Key) → ((x : Fid) → In (stands targets l k) x → In (stands targets after k) x) ⊎ (((x : Fid) → In (stands targets l k) x → Told x) × Somewhere k)
    moves (NodeKey f) = inl (λ x h. h)
    moves (NameKey d n) = ⊎_elim (λ e. inl (λ x h. subst (λ k. In (part_named targets d k n ∷ []) x) (sym e) h))
        (λ (r : Relaid d). inr (
          λ x h. ⊎_elim (λ same. subst Told same (r.told (part_named targets d (layout_at l d) n) (named_part d (layout_at l d) n))) (λ none. absurd none) h,
          (part_named targets d (layout_at after d) n, inl refl, r.new (part_named targets d (layout_at after d) n) (named_part d (layout_at after d) n)),
        ))
        (relaid d)
    moves (AllKey d) = ⊎_elim (λ e. inl (λ x h. subst (λ k. In (parts_of targets d k) x) (sym e) h))
        (λ (r : Relaid d). let p = one_part d (layout_at after d) in inr (λ x h. r.told x h, (p.0, p.1, r.new p.0 p.1)))
        (relaid d)

    -- ---- a written key stands at a written object

    node_met : (f : Fid) (k : Key) → IsNodeFid targets f → Wrote f → meets (NodeKey f) k ≡ true → Somewhere k
    node_met f (NodeKey g) h w met = subst (λ g. Somewhere (NodeKey g)) (same_is f g met) (f, node_stands after f h, w)
    node_met f (NameKey d n) h w met = absurd (true≢false (sym met))
    node_met f (AllKey d) h w met = absurd (true≢false (sym met))

    part_after : (d : Fid) (n : List ℕ) → Wrote (part_named targets d (layout_at l d) n) → Wrote (part_named targets d (layout_at after d) n)
    part_after d n w = ⊎_elim (λ e. subst (λ k. Wrote (part_named targets d k n)) (sym e) w)
        (λ (r : Relaid d). r.new (part_named targets d (layout_at after d) n) (named_part d (layout_at after d) n)) (relaid d)

    name_met : (d : Fid) (n : List ℕ) (k : Key) → Wrote (part_named targets d (layout_at l d) n) → meets (NameKey d n) k ≡ true → Somewhere k
    name_met d n (NodeKey g) w met = absurd (true≢false (sym met))
    name_met d n (NameKey e y) w met =
        let both = and_both (same_fid d e) (same_name n y) met in
        let dir = same_is d e both.0 in
        let name = name_same n y (sym (name_ties n y) ∙ both.1) in
        subst (λ f. Somewhere (NameKey f y)) dir (subst (λ y. Somewhere (NameKey d y)) name (part_named targets d (layout_at after d) n, inl refl, part_after d n w))
    name_met d n (AllKey e) w met =
        subst (λ f. Somewhere (AllKey f)) (same_is d e met) (part_named targets d (layout_at after d) n, named_part d (layout_at after d) n, part_after d n w)

    names_met : (d : Fid) (k : Key) → In cs (MoveNames d) → meets (AllKey d) k ≡ true → Somewhere k
    names_met d (NodeKey g) m met = absurd (true≢false (sym met))
    names_met d (NameKey e y) m met = absurd (true≢false (sym met))
    names_met d (AllKey e) m met =
        let lic = licence (MoveNames d) m in
        let next = next_of targets l looked d lic.0 lic.1 in
        let move : Change = NextLayout d lic.0 lic.1 in
        let p = one_part d (layout_at after d) in
        let w = at_new d next lic.3 (wrote_by move d lic.2 (inl refl))
        (λ y h. wrote_by move y lic.2 (inr (in_right (stripes_of targets d (layout_at l d)) (stripes_of targets d next) y h))) p.0 p.1 in
        subst (λ f. Somewhere (AllKey f)) (same_is d e met) (p.0, p.1, w)

    by_change : (c : Change) (w k : Key) → In cs c → In (keys_of c) w → meets w k ≡ true → Somewhere k
    by_change (PutNode f n) w k m h met = node_met f k (licence (PutNode f n) m).1 (wrote_by (PutNode f n) f m (inl refl)) (subst (λ w. meets w k ≡ true) (sym (only h)) met)
    by_change (DropNode f) w k m h met = node_met f k (licence (DropNode f) m).1 (wrote_by (DropNode f) f m (inl refl)) (subst (λ w. meets w k ≡ true) (sym (only h)) met)
    by_change (PutName d n f) w k m h met = name_met d n k (wrote_by (PutName d n f) (part_named targets d (layout_at l d) n) m (inl refl)) (subst (λ w. meets w k ≡ true) (sym (only h)) met)
    by_change (DropName d n) w k m h met = name_met d n k (wrote_by (DropName d n) (part_named targets d (layout_at l d) n) m (inl refl)) (subst (λ w. meets w k ≡ true) (sym (only h)) met)
    by_change (NewLayout d c i) w k m h met = node_met d k (inr (licence (NewLayout d c i) m).1) (wrote_by (NewLayout d c i) d m (inl refl)) (subst (λ w. meets w k ≡ true) (sym (only h)) met)
    by_change (NextLayout d c i) w k m h met = node_met d k (inr (licence (NextLayout d c i) m).2) (wrote_by (NextLayout d c i) d m (inl refl)) (subst (λ w. meets w k ≡ true) (sym (only h)) met)
    by_change (MoveNames d) w k m h met = names_met d k m (subst (λ w. meets w k ≡ true) (sym (only h)) met)

    pub writes_object : (w k : Key) → Among (keys_of_all cs) w → meets w k ≡ true → Somewhere k
    writes_object w k a met = let c = key_change cs w (in_keys (keys_of_all cs) w a) in by_change c.0 w k c.1 c.2 met

    -- ---- what is written was asked for, or stands beside what was

    pub beside : (c : Change) (x : Fid) → In cs c → In (written_by targets l c) x → Told x ⊎ ((there targets l x ≡ false) × Told (owner targets x))
    beside (PutNode f n) x m h = let lic = licence (PutNode f n) m in inl (subst Told (only h) (told_node f lic.0 lic.1))
    beside (DropNode f) x m h =
        let lic = licence (DropNode f) m in
        inl (⊎_elim (λ e. subst Told e (told_node f lic.0 lic.1))
        (λ s. ⊎_elim (λ (none : layout_at l f ≡ plain_layout). absurd (subst (λ k. In (stripes_of targets f k) x) none s))
        (λ (a : Among looked (AllKey f)). told_key (AllKey f) x a (stripe_part f (layout_at l f) x s)) lic.2) h)
    beside (PutName d n f) x m h = inl (told_key (NameKey d n) x (licence (PutName d n f) m).0 h)
    beside (DropName d n) x m h = inl (told_key (NameKey d n) x (licence (DropName d n) m).0 h)
    beside (NewLayout d c i) x m h =
        let lic = licence (NewLayout d c i) m in
        let lay : Layout = layout_with c i 0 in
        ⊎_elim (λ e. inl (subst Told e (told_node d lic.0 (inr lic.1))))
        (λ s. inr (
          fresh l sound d lay x lic.1 (subst (λ n. n ≤ targets) (sym (count_with c i 0)) lic.3) s (inl (ap (λ (k : Layout). k.count) (absent_plain l sound d lic.2))),
          subst Told (sym (of_stripe targets d lay x some few lic.1 s).own) (told_node d lic.0 (inr lic.1)),
        )) h
    beside (NextLayout d c i) x m h =
        let lic = licence (NextLayout d c i) m in
        let lay : Layout = next_of targets l looked d c i in
        ⊎_elim (λ e. inl (subst Told e (told_node d lic.0 (inr lic.2))))
        (λ s. ⊎_elim (λ old. inl (told_key (AllKey d) x lic.1 (stripe_part d (layout_at l d) x old)))
        (λ new. inr (
          fresh l sound d lay x lic.2 (subst (λ n. n ≤ targets) (sym (count_with c i (suc (layout_at l d).generation))) lic.4) new
              (inr (λ (e : (layout_at l d).generation ≡ lay.generation). absurd (let same = e ∙ generation_with c i (suc (layout_at l d).generation) in omega (arith, same)))),
          subst Told (sym (of_stripe targets d lay x some few lic.2 new).own) (told_node d lic.0 (inr lic.2)),
        )) (in_either (stripes_of targets d (layout_at l d)) (stripes_of targets d lay) x s)) h
    beside (MoveNames d) x m h = absurd h

    -- ---- what goes was written with its owner

    with_owner : (d : Fid) (lay : Layout) (x : Fid) → is_client targets d ≡ true → In (stripes_of targets d lay) x → Wrote d → Wrote (owner targets x)
    with_owner d lay x client h w = subst Wrote (sym (of_stripe targets d lay x some few client h).own) w

    node_gone : (f x : Fid) → IsNodeFid targets f → f ≡ x → Wrote x → Wrote (owner targets x)
    node_gone f x h e w = subst Wrote (sym (own_owner targets x (no_stripe targets x (subst (λ f. IsNodeFid targets f) e h)))) w

    name_gone : (d : Fid) (n : List ℕ) (x : Fid) → part_named targets d (layout_at l d) n ≡ x → IsNodeFid targets d → Wrote x → there targets after x ≡ false → Wrote (owner targets x)
    name_gone d n x e h w absent = ⊎_elim (λ same. node_gone d x h same w)
        (λ s. let is = striped l sound d x s in ⊎_elim
        (λ same. absurd (true≢false (sym (stripe_there after d x is.0 (subst (λ k. In (stripes_of targets d k) x) (sym same) s)) ∙ absent)))
        (λ (r : Relaid d). with_owner d (layout_at l d) x is.0 s r.own) (relaid d))
        (part_is targets d (layout_at l d).count (layout_at l d).start (layout_at l d).generation x (subst (λ y. In (parts_of targets d (layout_at l d)) y) e (named_part d (layout_at l d) n)))

    pub gone : (c : Change) (x : Fid) → In cs c → In (written_by targets l c) x → there targets after x ≡ false → Wrote (owner targets x)
    gone (PutNode f n) x m h absent = node_gone f x (licence (PutNode f n) m).1 (only h) (wrote_by (PutNode f n) x m h)
    gone (DropNode f) x m h absent = ⊎_elim (λ e. node_gone f x (licence (DropNode f) m).1 e (wrote_by (DropNode f) x m h))
        (λ s. with_owner f (layout_at l f) x (striped l sound f x s).0 s (wrote_by (DropNode f) f m (inl refl))) h
    gone (PutName d n f) x m h absent = name_gone d n x (only h) (licence (PutName d n f) m).1 (wrote_by (PutName d n f) x m h) absent
    gone (DropName d n) x m h absent = name_gone d n x (only h) (licence (DropName d n) m).1 (wrote_by (DropName d n) x m h) absent
    gone (NewLayout d c i) x m h absent =
        let lic = licence (NewLayout d c i) m in
        ⊎_elim (λ e. node_gone d x (inr lic.1) e (wrote_by (NewLayout d c i) x m h)) (λ s. with_owner d (layout_with c i 0) x lic.1 s (wrote_by (NewLayout d c i) d m (inl refl))) h
    gone (NextLayout d c i) x m h absent =
        let lic = licence (NextLayout d c i) m in
        let own : Wrote d = wrote_by (NextLayout d c i) d m (inl refl) in
        let next : Layout = next_of targets l looked d c i in
        ⊎_elim (λ e. node_gone d x (inr lic.2) e (wrote_by (NextLayout d c i) x m h))
        (λ s. ⊎_elim (λ old. with_owner d (layout_at l d) x lic.2 old own) (λ new. with_owner d next x lic.2 new own) (in_either (stripes_of targets d (layout_at l d)) (stripes_of targets d next) x s)) h
    gone (MoveNames d) x m h absent = absurd h

    -- ---- what isn't written stays

    node_written : (c : Change) (w : Key) (x : Fid) → In cs c → In (keys_of c) w → meets w (NodeKey x) ≡ true → Wrote x
    node_written (PutNode f n) w x m h met = wrote_by (PutNode f n) x m (inl (same_is f x (subst (λ w. meets w (NodeKey x) ≡ true) (sym (only h)) met)))
    node_written (DropNode f) w x m h met = wrote_by (DropNode f) x m (inl (same_is f x (subst (λ w. meets w (NodeKey x) ≡ true) (sym (only h)) met)))
    node_written (PutName d n f) w x m h met = absurd (true≢false (sym (subst (λ w. meets w (NodeKey x) ≡ true) (sym (only h)) met)))
    node_written (DropName d n) w x m h met = absurd (true≢false (sym (subst (λ w. meets w (NodeKey x) ≡ true) (sym (only h)) met)))
    node_written (NewLayout d c i) w x m h met = wrote_by (NewLayout d c i) x m (inl (same_is d x (subst (λ w. meets w (NodeKey x) ≡ true) (sym (only h)) met)))
    node_written (NextLayout d c i) w x m h met = wrote_by (NextLayout d c i) x m (inl (same_is d x (subst (λ w. meets w (NodeKey x) ≡ true) (sym (only h)) met)))
    node_written (MoveNames d) w x m h met = absurd (true≢false (sym (subst (λ w. meets w (NodeKey x) ≡ true) (sym (only h)) met)))

    node_stays : (x : Fid) → (Wrote x → ⊥) → get after.tree.nodes x ≡ get l.tree.nodes x
    unfolding node_of
    node_stays x never = ap node_of (unmet_after l cs (NodeKey x) (all_of (λ w. meets w (NodeKey x) ≡ false) (keys_of_all cs) (λ w h.
        ⊎_elim (λ (met : meets w (NodeKey x) ≡ true). absurd (let c = key_change cs w h in never (node_written c.0 w x c.1 c.2 met))) (λ e. e) (which (meets w (NodeKey x))))))

    stripe_stays : (x d : Fid) → (Wrote x → ⊥) → is_among (stripes_of targets d (layout_at after d)) x ≡ is_among (stripes_of targets d (layout_at l d)) x
    stripe_stays x d never = ⊎_elim (λ e. ap (λ k. is_among (stripes_of targets d k) x) e)
        (λ (r : Relaid d). not_in (stripes_of targets d (layout_at after d)) x (λ m. never (r.new x (stripe_part d (layout_at after d) x m)))
        ∙ sym (not_in (stripes_of targets d (layout_at l d)) x (λ m. never (r.old x m)))) (relaid d)

    pub stays : (x : Fid) → (Wrote x → ⊥) → there targets after x ≡ there targets l x
    stays x never =
        let nodes = node_stays x never in
        let stripes = stripe_stays x (owner targets x) never in
        λ j. is_some (nodes j) || (is_stripe targets x && stripes j)
