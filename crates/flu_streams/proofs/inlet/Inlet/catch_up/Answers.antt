use Rattle.std.proofs.Common.{◌≡◌, ◌-◌, ◌<◌, ◌≤◌, ℕ, Option, None, Some, length, refl, sym, ap, ◌∙◌, arith}
use Rattle.flu_lemmas.proofs.Tests.{not_both}
use Rattle.std.specs.List.{filter}
use Rattle.std.specs.Prelude.{nat_lt}
use Rattle.flu_model.specs.declared.events.Item.{Item}
use Rattle.flu_model.specs.Moments.{last_moment}
use Rattle.flu_streams.specs.Holding.{most_of}
use Rattle.flu_streams.specs.Lists.{item_time}
use Rattle.flu_streams.specs.LoopHeld.{Stays, Drops, Comes}
use Rattle.flu_streams.specs.Rounds.{settled}
use Rattle.flu_streams.specs.Tests.{margin}
use Rattle.flu_streams.proofs.Bounds.{few_behind, few_at_first, margin_most}
use Rattle.flu_streams.proofs.RoundLaws.{settled_is, settled_some}
use Rattle.flu_streams.proofs.inlet.Inlet.catch_up.Goals as goal

same_of : {a b : ℕ} → Some a ≡ Some b → a ≡ b
same_of e = cc

no_goal : {P : Type 0} (t : ℕ) → None ≡ Some t → P
no_goal t e = absurd (never e)
  where
    never : None ≡ Some t → ⊥
    never e = cc

settled_here : (slack l : ℕ) (last : Option ℕ) → last ≡ Some l → slack ≤ l → settled slack last ≡ Some (l - slack)
settled_here slack l last is le = ap (settled slack) is ∙ settled_some slack l le

none_early : (slack l u : ℕ) (last : Option ℕ) → last ≡ Some l → l < slack → settled slack last ≡ Some u → ⊥
none_early slack l u last is lt at =
    let k = settled_is slack l u (sym (ap (settled slack) is) ∙ at) in omega (arith, k.0, lt)

pub returns-then-self : goal.returns-then-self
returns-then-self c =
    let d = c.drop_until.ensures in
    record {
      timing = d.timing;
      rows = d.rows;
      first = d.first;
      last = d.last;
      ended = d.ended;
      closed = d.closed;
      held = d.held;
      items = Comes c.in-Some.goal (λ goes. absurd (not_both c.args.self.now.closed c.if-self.true goes)) c.in-Some.is refl d.items;
      before = λ t u e at. no_goal t e;
      shut = λ closed. refl;
      room = λ t e. no_goal t e;
    }

pub returns-then-settled-goal : goal.returns-then-settled-goal
returns-then-settled-goal c =
    let d = c.drop_until-then-settled-goal.ensures in
    let h = c.args.self.now in
    let l = c.in-Some-last.last in
    let behind : c.margin-behind.result ≡ margin h.timing c.args.slack = c.margin-behind.ensures in
    let le : margin h.timing c.args.slack ≤ l = omega (arith, behind, c.if-last-behind.false) in
    let at : settled (margin h.timing c.args.slack) h.last ≡ Some (l - margin h.timing c.args.slack) =
    settled_here (margin h.timing c.args.slack) l h.last c.in-Some-last.is le in
    let reached : c.in-Some.goal ≤ l - margin h.timing c.args.slack = omega (arith, behind, c.if-settled-goal.true) in
    record {
      timing = d.timing;
      rows = d.rows;
      first = d.first;
      last = d.last;
      ended = d.ended;
      closed = d.closed;
      held = d.held;
      items = Comes c.in-Some.goal (λ goes. (l - margin h.timing c.args.slack, at, reached)) c.in-Some.is refl d.items;
      before = λ t u e at. no_goal t e;
      shut = λ closed. refl;
      room = λ t e. no_goal t e;
    }

pub returns-then-len-most_items : goal.returns-then-len-most_items
returns-then-len-most_items c =
    let d = c.drop_until-then-len-most_items.ensures in
    let h = c.args.self.now in
    let l = c.in-Some-last.last in
    let behind : c.margin-behind.result ≡ margin h.timing c.args.slack = c.margin-behind.ensures in
    let le : margin h.timing c.args.slack ≤ l = omega (arith, behind, c.if-last-behind.false) in
    let time : l - c.margin-behind.result ≡ l - margin h.timing c.args.slack = ap (λ n. l - n) behind in
    let at : settled (margin h.timing c.args.slack) h.last ≡ Some (l - margin h.timing c.args.slack) =
    settled_here (margin h.timing c.args.slack) l h.last c.in-Some-last.is le in
    let short : l - margin h.timing c.args.slack < c.in-Some.goal = omega (arith, behind, c.if-settled-goal.false) in
    let left = d.items ∙ ap (λ t. filter (λ (item : Item). nat_lt (last_moment h.timing t) (item_time item)) h.items) time in
    record {
      timing = d.timing;
      rows = d.rows;
      first = d.first;
      last = d.last;
      ended = d.ended;
      closed = d.closed;
      held = d.held;
      items = Drops (l - margin h.timing c.args.slack) c.in-Some.goal c.if-self.false at short c.in-Some.is (d.goal ∙ c.in-Some.is) left;
      before = λ t u e now.
          let goal_is : c.in-Some.goal ≡ t = same_of (sym c.in-Some.is ∙ sym d.goal ∙ e) in
          let time_is : l - margin h.timing c.args.slack ≡ u = same_of (sym at ∙ (λ i. settled (margin (sym d.timing i) c.args.slack) (sym d.last i)) ∙ now) in
          omega (arith, short, goal_is, time_is);
      shut = λ closed. absurd (not_both h.closed (sym d.closed ∙ closed) c.if-self.false);
      room = λ t e.
          let few = few_behind (margin h.timing c.args.slack) l h c.in-Some-last.is le in
          let same = ap length left in
          let most = margin_most h.timing c.args.slack c.requires in
          let bound = ap most_of d.timing in
          omega (arith, few, same, most, bound);
    }

pub returns-then-last-behind : goal.returns-then-last-behind
returns-then-last-behind c =
    let h = c.args.self.now in
    let early : c.in-Some-last.last < margin h.timing c.args.slack = omega (arith, c.margin-behind.ensures, c.if-last-behind.true) in
    record {
      timing = refl;
      rows = refl;
      first = refl;
      last = refl;
      ended = refl;
      closed = refl;
      held = refl;
      items = Stays refl refl;
      before = λ t u e at. absurd (none_early (margin h.timing c.args.slack) c.in-Some-last.last u h.last c.in-Some-last.is early at);
      shut = λ closed. absurd (not_both h.closed closed c.if-self.false);
      room = λ t e.
          let few = few_at_first (margin h.timing c.args.slack) c.in-Some-last.last h c.in-Some-last.is early in
          let most = margin_most h.timing c.args.slack c.requires in
          omega (arith, few, most);
    }
