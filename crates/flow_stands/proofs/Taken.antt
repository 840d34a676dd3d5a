-- The machine follows what is taken out of tuples.
use Rattle.std.proofs.Common.{◌≡◌, ℕ, ◌+◌, ◌<◌, ◌≤◌, Bool, true, false, List, [], ◌∷◌, ◌++◌, length, get_or, Some, None, Option, refl, sym, ap, ◌∙◌, subst, arith, length-append}
use Rattle.std.specs.Prelude.{suc, slice_get, ◌==◌, if◌then◌else◌}
use Rattle.std.proofs.lemmas.List.{append-nil}
use Rattle.rpy_tree.specs.Value.{Value, Tuple}
use Rattle.rpy_meaning.specs.declared.row.RowOp.TheVariants as row
use Rattle.rpy_meaning.specs.Tree.{Target, Name, Attribute, Item, Parts, Program}
use Rattle.rpy_meaning.specs.World.{World, bad, give, if_some}
use Rattle.rpy_meaning.specs.Sequences.{items_of}
use Rattle.rpy_meaning.specs.Classes.{is_below}
use Rattle.rpy_meaning.specs.Operations.{unpack, builtin_classes}
use Rattle.rpy_meaning.specs.Evaluation.{State}
use Rattle.rpy_meaning.specs.Meaning.{Run, Sem}
use Rattle.flow_graph.specs.declared.graph.Graphs.{Graphs}
use Rattle.flow_meaning.specs.Machine.{Frame}
use Rattle.flow_stands.proofs.Watches.{Watching}
use Rattle.flow_stands.specs.Places.{Jump, Scope, first, first_and}
use Rattle.flow_stands.specs.Stands.{Path, Unpacks, There, Taken, HasBind, Stand}
use Rattle.flow_stands.proofs.Worlds.{total, Weight}
use Rattle.flow_stands.proofs.Lists.{Env, pick}
use Rattle.flow_stands.proofs.Core.{Place, place, env, Fit, Catches, Leads, leads_on, enter, wrong_run}
use Rattle.flow_stands.proofs.Calls.{Good}
use Rattle.flow_stands.proofs.Parts.{land_first, land_result, land_at, gives_on, strays_on, same_as}

-- ---- paths

-- the item of a tuple of so many
abbrev pub item_at : ℕ × ℕ → Value → Option Value
item_at part (Tuple vs) = if length (items_of vs) == part.0 then slice_get (items_of vs) part.1 else None
item_at part x = None

abbrev pub then_at : (Value → Option Value) → Option Value → Option Value
then_at f None = None
then_at f (Some x) = f x

-- and the one at a path
abbrev pub reached : Path → Value → Option Value
reached [] x = Some x
reached (part ∷ path) x = then_at (reached path) (item_at part x)

unpack_if : (part : ℕ × ℕ) (vs : List Value) (b : Bool) (w : World) → (if b then if_some bad (slice_get vs part.1) give else bad) w ≡ if_some bad (if b then slice_get vs part.1 else None) give w
unpack_if part vs true w = refl
unpack_if part vs false w = refl

pub unpack_is : (part : ℕ × ℕ) (x : Value) (w : World) → unpack part.0 part.1 x w ≡ if_some bad (item_at part x) give w
unpack_is part (Tuple vs) w = unpack_if part (items_of vs) (length (items_of vs) == part.0) w
unpack_is part x w = refl

-- one item further
pub reached_on : (path : Path) (part : ℕ × ℕ) (x y : Value) → reached path x ≡ Some y → reached (path ++ part ∷ []) x ≡ then_at Some (item_at part y)
reached_on [] part x y e = let z : x ≡ y = cc in ap (λ v. then_at Some (item_at part v)) z
reached_on (next ∷ path) part x y e = by (item_at next x) (λ v h. reached_on path part v y h) e
  where
    by : (o : Option Value) → ((v : Value) → reached path v ≡ Some y → reached (path ++ part ∷ []) v ≡ then_at Some (item_at part y)) → then_at (reached path) o ≡ Some y → then_at (reached (path ++ part ∷ [])) o ≡ then_at Some (item_at part y)
    by None on h = absurd (cc h)
    by (Some v) on h = on v h

-- what a store holds by itself: the item of a tuple
abbrev pub own : Path → Value → List Value
own [] v = []
own (part ∷ path) v = v ∷ []

pub own_inner : (path : Path) (part : ℕ × ℕ) (v : Value) → own (path ++ part ∷ []) v ≡ v ∷ []
own_inner [] part v = refl
own_inner (next ∷ path) part v = refl

pub own_light : (wt : Weight) (path : Path) (v : Value) → total wt.of (own path v) ≤ total wt.of (v ∷ [])
own_light wt [] v = omega arith
own_light wt (part ∷ path) v = omega arith

-- ---- along a path

module _ (p : Program) (gs : Graphs) (wa : Watching) (builtins : (k : ℕ) → k < builtin_classes → is_below p.classes k 0 ≡ true) (stand : Stand p gs) (prev : Sem) (top : ℕ) (good : Good p gs wa prev top) (f n : ℕ) (instead : Option Value) (frs : List Frame) where
  abbrev pub at_place : Place → World → Run → ℕ → Type 0
  at_place = enter p gs wa f instead frs

  module _ (m : ℕ) (sc : Scope) (held : List Value) (R : ℕ → State → Place) (c : Catches p gs wa n m sc held R) (s : State) (fit : Fit (suc top) n s) where
    -- where the last item is, and what goes on from there
    abbrev Lands : (ℕ → Jump) → Value → ℕ → Env → Type 0
    Lands last v q to = (ys : List Value) (k : ℕ) → m + length ys ≡ k → place (last k).to (pick (env s (held ++ ys) ++ Some v ∷ []) (last k).places) ≡ place q to

    pub unpacks : (last : ℕ → Jump) (part : ℕ × ℕ) (path : Path) (at w b q : ℕ) (zs : List Value) (x v : Value) (to : Env)
        → m + length zs ≡ w → get_or (env s (held ++ zs)) at None ≡ Some x → reached (part ∷ path) x ≡ Some v → Unpacks p gs f n sc last m (part ∷ path) at w b → Lands last v q to
        → Leads p gs wa (at_place (place b (env s (held ++ zs))) s.world) (at_place (place q to) s.world)
    unpacks last part [] at w b q zs x v to len is e has lands = by (item_at part x) refl e
      where
        by : (o : Option Value) → item_at part x ≡ o → then_at Some o ≡ Some v → Leads p gs wa (at_place (place b (env s (held ++ zs))) s.world) (at_place (place q to) s.world)
        by None i h = absurd (cc h)
        by (Some y) i h =
            let z : y ≡ v = cc in
            leads_on p gs wa
            (gives_on p gs wa builtins stand prev top good f n instead frs m sc held R c s fit (held ++ zs) zs refl b w (row.Unpack part.0 part.1) (at ∷ []) (last w) (x ∷ []) has len (ap (λ o. o ∷ []) is) refl v (pick (env s (held ++ zs) ++ Some v ∷ []) (last w).places)
            (unpack_is part x s.world ∙ ap (λ o. if_some bad o give s.world) (i ∙ ap Some z)) refl)
            (same_as p gs wa builtins stand prev top good f n instead frs (place (last w).to (pick (env s (held ++ zs) ++ Some v ∷ []) (last w).places)) (place q to) s.world (lands zs w len))
    unpacks last part (next ∷ path) at w b q zs x v to len is e has lands =
        by (item_at part x) refl (λ y h. unpacks last next path m (m + 1) has.0 q (y ∷ []) y v to refl (land_at n s fit.long (held ++ y ∷ []) held [] y m refl c.all) h has.2 lands) e
      where
        by : (o : Option Value) → item_at part x ≡ o → ((y : Value) → reached (next ∷ path) y ≡ Some v → Leads p gs wa (at_place (place has.0 (env s (held ++ y ∷ []))) s.world) (at_place (place q to) s.world)) → then_at (reached (next ∷ path)) o ≡ Some v → Leads p gs wa (at_place (place b (env s (held ++ zs))) s.world) (at_place (place q to) s.world)
        by None i on h = absurd (cc h)
        by (Some y) i on h =
            leads_on p gs wa
            (gives_on p gs wa builtins stand prev top good f n instead frs m sc held R c s fit (held ++ zs) zs refl b w (row.Unpack part.0 part.1) (at ∷ []) (first_and has.0 m w) (x ∷ []) has.1 len (ap (λ o. o ∷ []) is) refl y (env s (held ++ y ∷ []))
            (unpack_is part x s.world ∙ ap (λ o. if_some bad o give s.world) i)
            (land_result n s fit.long (held ++ zs) held zs m w y refl c.all (let a = c.all in let l = length-append held zs in omega (arith, a, l, len))))
            (on y h)

    -- where there is none
    pub unpacks_none : (last : ℕ → Jump) (part : ℕ × ℕ) (path : Path) (at w b : ℕ) (zs : List Value) (x : Value)
        → m + length zs ≡ w → get_or (env s (held ++ zs)) at None ≡ Some x → reached (part ∷ path) x ≡ None → Unpacks p gs f n sc last m (part ∷ path) at w b
        → (moment : ℕ) → at_place (place b (env s (held ++ zs))) s.world (wrong_run p gs wa) moment
    unpacks_none last part [] at w b zs x len is e has moment = by (item_at part x) refl e
      where
        by : (o : Option Value) → item_at part x ≡ o → then_at Some o ≡ None → at_place (place b (env s (held ++ zs))) s.world (wrong_run p gs wa) moment
        by (Some y) i h = absurd (cc h)
        by None i h =
            strays_on p gs wa builtins stand prev top good f n instead frs m sc held R c s fit (held ++ zs) zs refl b w (row.Unpack part.0 part.1) (at ∷ []) (last w) (x ∷ []) has len (ap (λ o. o ∷ []) is) refl
            (unpack_is part x s.world ∙ ap (λ o. if_some bad o give s.world) i) moment
    unpacks_none last part (next ∷ path) at w b zs x len is e has moment =
        by (item_at part x) refl (λ y h. unpacks_none last next path m (m + 1) has.0 (y ∷ []) y refl (land_at n s fit.long (held ++ y ∷ []) held [] y m refl c.all) h has.2 moment) e
      where
        by : (o : Option Value) → item_at part x ≡ o → ((y : Value) → reached (next ∷ path) y ≡ None → at_place (place has.0 (env s (held ++ y ∷ []))) s.world (wrong_run p gs wa) moment) → then_at (reached (next ∷ path)) o ≡ None → at_place (place b (env s (held ++ zs))) s.world (wrong_run p gs wa) moment
        by None i on h =
            strays_on p gs wa builtins stand prev top good f n instead frs m sc held R c s fit (held ++ zs) zs refl b w (row.Unpack part.0 part.1) (at ∷ []) (first_and has.0 m w) (x ∷ []) has.1 len (ap (λ o. o ∷ []) is) refl
            (unpack_is part x s.world ∙ ap (λ o. if_some bad o give s.world) i) moment
        by (Some y) i on h =
            (gives_on p gs wa builtins stand prev top good f n instead frs m sc held R c s fit (held ++ zs) zs refl b w (row.Unpack part.0 part.1) (at ∷ []) (first_and has.0 m w) (x ∷ []) has.1 len (ap (λ o. o ∷ []) is) refl y (env s (held ++ y ∷ []))
            (unpack_is part x s.world ∙ ap (λ o. if_some bad o give s.world) i)
            (land_result n s fit.long (held ++ zs) held zs m w y refl c.all (let a = c.all in let l = length-append held zs in omega (arith, a, l, len)))).by _ moment
            (on y h)

    nothing_held : held ++ [] ≡ held
    nothing_held = append-nil held

    -- the item is there, and dropped
    pub there : (path : Path) (at b q : ℕ) (x v : Value) → get_or (env s held) at None ≡ Some x → reached path x ≡ Some v → There p gs f n sc path at b m q
        → Leads p gs wa (at_place (place b (env s held)) s.world) (at_place (place q (env s held)) s.world)
    there [] at b q x v is e has = same_as p gs wa builtins stand prev top good f n instead frs (place b (env s held)) (place q (env s held)) s.world (ap (λ k. place k (env s held)) has)
    there (part ∷ path) at b q x v is e has =
        subst (λ h. Leads p gs wa (at_place (place b (env s h)) s.world) (at_place (place q (env s held)) s.world)) nothing_held
        (unpacks (λ w. first q m) part path at m b q [] x v (env s held) (omega arith) (ap (λ h. get_or (env s h) at None) nothing_held ∙ is) e has
        (λ ys k len. ap (place q) (land_first n s fit.long (held ++ ys) held ys m (Some v ∷ []) refl c.all)))

    -- the item stands at a place
    pub record Took (path : Path) (b q at w : ℕ) (v : Value) : Type 0 where
      pub zs : List Value
      pub leads : Leads p gs wa (at_place (place b (env s held)) s.world) (at_place (place q (env s (held ++ zs))) s.world)
      pub wide : m + length zs ≡ w
      pub is : get_or (env s (held ++ zs)) at None ≡ Some v
      pub light : (wt : Weight) → total wt.of zs ≤ total wt.of (own path v)

    pub took : (path : Path) (at b q at_v w : ℕ) (x v : Value) → get_or (env s held) at None ≡ Some x → reached path x ≡ Some v → Taken p gs f n sc path at b m q at_v w → Took path b q at_v w v
    took [] at b q at_v w x v is e has =
        let z : x ≡ v = cc in
        record {
          zs = [];
          leads = same_as p gs wa builtins stand prev top good f n instead frs (place b (env s held)) (place q (env s (held ++ []))) s.world (ap (λ k. place k (env s held)) has.0 ∙ ap (λ h. place q (env s h)) (sym nothing_held));
          wide = let y = has.2 in omega (arith, y);
          is = ap (λ h. get_or (env s h) at_v None) nothing_held ∙ ap (λ k. get_or (env s held) k None) has.1 ∙ is ∙ ap Some z;
          light = λ wt. omega arith;
        }
    took (part ∷ path) at b q at_v w x v is e has =
        record {
          zs = v ∷ [];
          leads =
              subst (λ h. Leads p gs wa (at_place (place b (env s h)) s.world) (at_place (place q (env s (held ++ v ∷ []))) s.world)) nothing_held
              (unpacks (first_and q m) part path at m b q [] x v (env s (held ++ v ∷ [])) (omega arith) (ap (λ h. get_or (env s h) at None) nothing_held ∙ is) e has.0
              (λ ys k len. ap (place q) (land_result n s fit.long (held ++ ys) held ys m k v refl c.all (let a = c.all in let l = length-append held ys in omega (arith, a, l, len)))));
          wide = let y = has.2 in omega (arith, y);
          is = ap (λ k. get_or (env s (held ++ v ∷ [])) k None) has.1 ∙ land_at n s fit.long (held ++ v ∷ []) held [] v m refl c.all;
          light = λ wt. omega arith;
        }

    none_first : (part : ℕ × ℕ) (path : Path) (last : ℕ → Jump) (at b : ℕ) (x : Value) → get_or (env s held) at None ≡ Some x → reached (part ∷ path) x ≡ None → Unpacks p gs f n sc last m (part ∷ path) at m b
        → (moment : ℕ) → at_place (place b (env s held)) s.world (wrong_run p gs wa) moment
    none_first part path last at b x is e has moment =
        subst (λ h. at_place (place b (env s h)) s.world (wrong_run p gs wa) moment) nothing_held
        (unpacks_none last part path at m b [] x (omega arith) (ap (λ h. get_or (env s h) at None) nothing_held ∙ is) e has moment)

    -- a target whose item is not there
    bind_first : (t : Target) (part : ℕ × ℕ) (path : Path) (at keep b q : ℕ) (x : Value) → get_or (env s held) at None ≡ Some x → reached (part ∷ path) x ≡ None → HasBind p gs f n sc t (part ∷ path) at m keep b q
        → (moment : ℕ) → at_place (place b (env s held)) s.world (wrong_run p gs wa) moment
    bind_first (Name i) part path at keep b q x is e has = none_first part path (first_and has.0 m) at b x is e has.4.0
    bind_first (Attribute a name) part path at keep b q x is e has = none_first part path (λ w. first has.0 m) at b x is e has.5
    bind_first (Item a i) part path at keep b q x is e has = none_first part path (λ w. first has.0 m) at b x is e has.6
    bind_first (Parts parts) part path at keep b q x is e has = none_first part path (first_and has.0 m) at b x is e has.5.0

    pub bind_none : (t : Target) (path : Path) (part : ℕ × ℕ) (at keep b q : ℕ) (x : Value) → get_or (env s held) at None ≡ Some x → reached (path ++ part ∷ []) x ≡ None → HasBind p gs f n sc t (path ++ part ∷ []) at m keep b q
        → (moment : ℕ) → at_place (place b (env s held)) s.world (wrong_run p gs wa) moment
    bind_none t [] part at keep b q x is e has = bind_first t part [] at keep b q x is e has
    bind_none t (next ∷ path) part at keep b q x is e has = bind_first t next (path ++ part ∷ []) at keep b q x is e has
