-- The sites before one that have an object.
use Rattle.std.proofs.Common.{◌≡◌, ℕ, ◌+◌, Bool, cond, List, [], ◌∷◌, Option, Some, None, map, take, refl, sym, ap, ◌∙◌}
use Rattle.std.specs.Prelude.{count_by, is_some, option_map}
use Rattle.std.proofs.lemmas.List.{take-map}
use Rattle.std.proofs.lemmas.List.Sums.{sum_by-cons}
use Rattle.rpy_tree.specs.Value.{Value, Ref, Object, Listed}
use Rattle.rpy_tree.specs.declared.program.Const.{Const}
use Rattle.rpy_tree.specs.declared.program.Site.{Site}
use Rattle.rpy_tree.specs.declared.program.Const.{fold-Const}
use Rattle.rpy_tree.specs.declared.program.Const.TheOpen.{Const-F}
use Rattle.rpy_meaning.specs.Operations.{builtin_classes, object_of, constant, constant_step}
use Rattle.resolved_meaning.specs.Programs.{empty_at, contents, value_in, object_at, sites_of}

same : (o : Option (List (Const × Const))) → is_some (option_map (λ (pairs : List (Const × Const)). Listed []) o) ≡ is_some o
same None = refl
same (Some pairs) = refl

made_all : (sites : List Site) → count_by is_some (map empty_at sites) ≡ count_by (λ s. is_some s.prebuilt) sites
made_all [] = refl
made_all (s ∷ sites) =
    sum_by-cons (λ (o : Option Object). cond (is_some o) 1 0) (empty_at s) (map empty_at sites)
    ∙ ap (λ (b : Bool). cond b 1 0 + count_by is_some (map empty_at sites)) (same s.prebuilt)
    ∙ ap (λ (n : ℕ). cond (is_some s.prebuilt) 1 0 + n) (made_all sites)
    ∙ sym (sum_by-cons (λ (t : Site). cond (is_some t.prebuilt) 1 0) s sites)

pub made_before : (sites : List Site) (n : ℕ) → count_by (λ s. is_some s.prebuilt) (take n sites) ≡ count_by is_some (take n (map empty_at sites))
made_before sites n = sym (made_all (take n sites)) ∙ ap (count_by is_some) (sym (take-map empty_at n sites))

-- where objects stand is the same whether they are empty or not
full : (sites : List Site) (o : Option (List (Const × Const))) (dict : Bool) → is_some (option_map (λ (pairs : List (Const × Const)). Listed []) o) ≡ is_some (option_map (contents (value_in sites) dict) o)
full sites None dict = refl
full sites (Some pairs) dict = refl

full_all : (all sites : List Site) → count_by is_some (map empty_at sites) ≡ count_by is_some (map (object_at all) sites)
full_all all [] = refl
full_all all (s ∷ sites) =
    sum_by-cons (λ (o : Option Object). cond (is_some o) 1 0) (empty_at s) (map empty_at sites)
    ∙ ap (λ (b : Bool). cond b 1 0 + count_by is_some (map empty_at sites)) (full all s.prebuilt s.dict)
    ∙ ap (λ (n : ℕ). cond (is_some (object_at all s)) 1 0 + n) (full_all all sites)
    ∙ sym (sum_by-cons (λ (o : Option Object). cond (is_some o) 1 0) (object_at all s) (map (object_at all) sites))

place_same : (sites : List Site) (n : ℕ) → object_of (map empty_at sites) n ≡ object_of (sites_of sites) n
place_same sites n =
    ap (λ (k : ℕ). builtin_classes + k)
    (ap (count_by is_some) (take-map empty_at n sites) ∙ full_all sites (take n sites) ∙ ap (count_by is_some) (sym (take-map (object_at sites) n sites)))

step_same : (sites : List Site) (c : Const-F Value) → constant_step (map empty_at sites) c ≡ constant_step (sites_of sites) c
step_same sites (Const-F.Word z) = refl
step_same sites (Const-F.Bool b) = refl
step_same sites (Const-F.Str text) = refl
step_same sites Const-F.None = refl
step_same sites (Const-F.Function f) = refl
step_same sites (Const-F.Tuple vs) = refl
step_same sites (Const-F.List s) = ap Ref (place_same sites s)
step_same sites (Const-F.Dict s) = ap Ref (place_same sites s)

pub constant_same : (sites : List Site) (a : Const) → value_in sites a ≡ constant (sites_of sites) a
constant_same sites a = ap (λ (step : Const-F Value → Value). fold-Const Value step a) (λ i c. step_same sites c i)
