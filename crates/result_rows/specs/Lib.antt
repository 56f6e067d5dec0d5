pub mod RowInputs
