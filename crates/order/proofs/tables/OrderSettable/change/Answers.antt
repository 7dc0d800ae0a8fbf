use Rattle.std.proofs.Common.{◌∙◌, rules}
use Rattle.order.specs.Places.{swapped}
use Rattle.order.proofs.tables.OrderSettable.change.Goals as goal

pub returns-in_ok-exchange-in-Rows : goal.returns-in_ok-exchange-in-Rows
returns-in_ok-exchange-in-Rows c =
    let acting = c.fitted-next.ensures in
    let next = c.in_ok-exchange-in-Rows.ensures in
    rw c.in-Rows.is (search rules, λ z. record { rows = (next.count ∙ acting.rows) z; columns = acting.columns z; row = λ r. ((λ y. next.places.1 y r) ∙ acting.row (swapped c.in-Rows.i c.in-Rows.j r)) z; column = λ k. acting.column k z })

pub returns-in_ok-exchange-in-Columns : goal.returns-in_ok-exchange-in-Columns
returns-in_ok-exchange-in-Columns c =
    let acting = c.fitted-next.ensures in
    let next = c.in_ok-exchange-in-Columns.ensures in
    rw c.in-Columns.is (search rules, λ z. record { rows = acting.rows z; columns = (next.count ∙ acting.columns) z; row = λ r. acting.row r z; column = λ k. ((λ y. next.places.1 y k) ∙ acting.column (swapped c.in-Columns.i c.in-Columns.j k)) z })
