-- What targets take, a part further.
use Rattle.std.proofs.Common.{◌≡◌, ℕ, Bool, List, [], ◌∷◌, ◌++◌, ◌⊎◌, inl, inr, ap, ◌∙◌, subst, refl}
use Rattle.rpy_meaning.specs.declared.row.RowOp.{RowOp}
use Rattle.rpy_resolved.specs.declared.tree.Resolved.{Resolved}
use Rattle.rpy_resolved.specs.declared.tree.Target.{Target}
use Rattle.resolved_meaning.specs.Trees.{program_of}
use Rattle.flow_graph.specs.declared.graph.Graphs.{Graphs}
use Rattle.flow_space.specs.declared.code.Scope.{Scope}
use Rattle.flow_space.specs.declared.source.Source.{Source}
use Rattle.flow_space.specs.declared.source.TupleItem.{TupleItem}
use Rattle.flow_trees.specs.Marks.{Path, Step, HasBind}
use Rattle.flow_trees.specs.Ops.{Helps, InPath}
use Rattle.flow_space.specs.Trees.{target_of}
use Rattle.flow_space.specs.Placed.{TakeAt, scope_of, path_of}
use Rattle.flow_space.proofs.Parts.{either}

abbrev pub step_of : TupleItem → Step
step_of item = record { node = item.node; count = item.count; place = item.place }

path_push : (path : List TupleItem) (item : TupleItem) → path_of (path ++ item ∷ []) ≡ path_of path ++ step_of item ∷ []
path_push [] item = refl
path_push (next ∷ path) item = ap (λ (l : Path). step_of next ∷ l) (path_push path item)

module _ (sc : Scope) (t : Target) (inner source : Source) (item : TupleItem) (m keep b q : ℕ) (r : Resolved) (gs : Graphs) (f lo hi : ℕ) where
  abbrev Binds : Path → ℕ → Type 0
  Binds path at = HasBind (program_of r) gs f sc.locals (scope_of sc) (target_of r.sites t) path at m keep b q lo hi

  -- an item of what stands there, of so many
  pub inner_binds : (count place : ℕ) → inner.at ≡ source.at → inner.path ≡ source.path ++ item ∷ [] → item.count ≡ count → item.place ≡ place → (TakeAt sc t inner m keep b q).stands r gs f lo hi → Binds (path_of source.path ++ record { node = item.node; count = count; place = place } ∷ []) source.at
  inner_binds count place at path is_count is_place h =
      subst (λ n. Binds (path_of source.path ++ record { node = item.node; count = count; place = n } ∷ []) source.at) is_place
      (subst (λ n. Binds (path_of source.path ++ record { node = item.node; count = n; place = item.place } ∷ []) source.at) is_count
      (subst (λ a. Binds (path_of source.path ++ step_of item ∷ []) a) at
      (subst (λ p. Binds p inner.at) (ap path_of path ∙ path_push source.path item) h)))

-- ---- operations on the way to an item

path_last : (x : ℕ) (g : Bool) (w : RowOp) (path : Path) (step : Step) → InPath x g w (path ++ step ∷ []) → Helps x g w step.node ⊎ InPath x g w path
path_last x g w [] step (inl h) = inl h
path_last x g w [] step (inr h) = absurd h
path_last x g w (next ∷ path) step (inl h) = inr (inl h)
path_last x g w (next ∷ path) step (inr h) = either (λ a. inl a) (λ a. inr (inr a)) (path_last x g w path step h)

pub inner_path : (x : ℕ) (g : Bool) (w : RowOp) (path inner : List TupleItem) (item : TupleItem) → inner ≡ path ++ item ∷ [] → InPath x g w (path_of inner) → Helps x g w item.node ⊎ InPath x g w (path_of path)
inner_path x g w path inner item e h = path_last x g w (path_of path) (step_of item) (subst (λ (p : Path). InPath x g w p) (ap path_of e ∙ path_push path item) h)
