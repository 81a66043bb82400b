-- The objects of a target as a value: what stands under each FID.
use Rattle.std.specs.Prelude.{◌≡◌, ℕ, ◌==◌, if◌then◌else◌, List, refl}
use Rattle.std.specs.FinMap.{FinMap, empty, insert}
use Rattle.std.specs.FinMap as map
use Rattle.std.specs.Coded.{Coded, code_by, coded×, coded_ℕ}
use Rattle.fid_space.specs.declared.fid.Fid.{Fid}
use Rattle.tree_model.specs.Fids.{fid_cmp, name_cmp, coded_fid, coded_name}
use Rattle.tree_model.specs.Tree.{Names, coded_names, root_fid}
use Rattle.striped_dir.specs.declared.layout.Layout.{Layout}
use Rattle.object_store.specs.declared.body.Body.{Body}
use Rattle.object_store.specs.declared.body.ObjectKind.{ObjectKind}
use Rattle.object_store.specs.declared.body.ObjectKind.TheVariants.{File, Directory, Stripe}
use Rattle.object_store.specs.Bodies.{number_of}

-- extended attributes by their names
abbrev pub Attributes : Type 0
Attributes = FinMap name_cmp (List ℕ)

pub record Object : Type 0 where
  pub body : Body
  pub entries : Names
  pub attributes : Attributes

abbrev pub ObjectMap : Type 0
ObjectMap = FinMap fid_cmp Object

-- a new object with this body
abbrev pub fresh : Body → Object
fresh b = record { body = b; entries = empty; attributes = empty }

abbrev pub no_layout : Layout
no_layout = record { count = 0; start = 0; generation = 0 }

-- the root is its own parent
abbrev pub root_body : Body
root_body = record { kind = Directory; mode = 0o755; uid = 0; gid = 0; links = 2; layout = no_layout; fid = root_fid; index = 0 }

-- what a target has at first: target 0 the root, the others nothing
abbrev pub first_objects : ℕ → ObjectMap
first_objects target = if target == 0 then insert empty root_fid (fresh root_body) else empty

-- how the values are told apart
abbrev pub kind_of : ℕ → ObjectKind
kind_of n = if n == 1 then File else (if n == 2 then Directory else Stripe)

abbrev pub kind_again : (k : ObjectKind) → kind_of (number_of k) ≡ k
kind_again File = refl
kind_again Directory = refl
kind_again Stripe = refl

abbrev pub coded_kind : Coded ObjectKind
coded_kind = code_by ℕ coded_ℕ number_of kind_of kind_again

abbrev pub coded_layout : Coded Layout
coded_layout = code_by (ℕ × (ℕ × ℕ)) (coded× coded_ℕ (coded× coded_ℕ coded_ℕ)) (λ l. (l.count, (l.start, l.generation))) (λ p. record { count = p.0; start = p.1.0; generation = p.1.1 }) (λ _. refl)

abbrev pub coded_body : Coded Body
coded_body = code_by (ObjectKind × (ℕ × (ℕ × (ℕ × (ℕ × (Layout × (Fid × ℕ)))))))
    (coded× coded_kind (coded× coded_ℕ (coded× coded_ℕ (coded× coded_ℕ (coded× coded_ℕ (coded× coded_layout (coded× coded_fid coded_ℕ)))))))
    (λ b. (b.kind, (b.mode, (b.uid, (b.gid, (b.links, (b.layout, (b.fid, b.index))))))))
    (λ p. record { kind = p.0; mode = p.1.0; uid = p.1.1.0; gid = p.1.1.1.0; links = p.1.1.1.1.0; layout = p.1.1.1.1.1.0; fid = p.1.1.1.1.1.1.0; index = p.1.1.1.1.1.1.1 }) (λ _. refl)

abbrev pub coded_object : Coded Object
coded_object = code_by (Body × (Names × Attributes)) (coded× coded_body (coded× coded_names (map.code coded_name coded_name)))
    (λ o. (o.body, (o.entries, o.attributes))) (λ p. record { body = p.0; entries = p.1.0; attributes = p.1.1 }) (λ _. refl)

abbrev pub coded_objects : Coded ObjectMap
coded_objects = map.code coded_fid coded_object
