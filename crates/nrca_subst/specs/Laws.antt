-- The walk of a term whose parts are made anew one after another.
pub mod Walking
