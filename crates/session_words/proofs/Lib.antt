mod NumberLemmas
mod OptionLemmas
mod WordRows
