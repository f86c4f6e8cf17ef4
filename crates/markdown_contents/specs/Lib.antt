-- the definitions that the contracts of `list_in` and `list_of` cite
pub mod Contents
-- that of `html_list_of`
pub mod HtmlList
-- the terms of private clauses
pub mod ContentsSoFar
