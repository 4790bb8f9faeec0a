pub mod OperationTypes
pub mod Types
pub mod ValueTypes
pub mod Variables
pub mod View
pub mod Laws
